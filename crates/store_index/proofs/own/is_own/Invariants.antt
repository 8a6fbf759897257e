-- The loop's invariant of `store_index::own::is_own`: nothing differs exactly if the lines of the entries passed are the store's own, and their
-- blocks are its used lines before the next entry.
use Rattle.std.proofs.Common.{◌≡◌, ◌≤◌}
use Rattle.std.specs.Prelude.{◌↔◌}
use Rattle.laws.specs.Count.{count_below}
use Rattle.store_index.specs.IndexColumns.{index_in}
use Rattle.store_index.specs.OwnLines.{used_of, end_to, Behind, EntriesOwn}
use Rattle.store_index.proofs.own.is_own.Given as goal

abbrev pub invariant-loop-i : goal.invariant-loop-i
invariant-loop-i l =
    ((l.differs ≡ 0) ↔ EntriesOwn l.store l.d (index_in l.columns) l.i)
    × (l.blocks ≡ count_below (end_to l.d l.i) (used_of l.store)) × Behind l.d l.i (end_to l.d l.i) × (end_to l.d l.i ≤ 32) × (l.d.count ≤ 32)
