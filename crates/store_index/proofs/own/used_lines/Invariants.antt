-- The loop's invariant of `store_index::own::used_lines`: the used lines passed are counted.
use Rattle.std.proofs.Common.{◌≡◌, ◌≤◌}
use Rattle.laws.specs.Count.{count_below}
use Rattle.store_index.specs.IndexColumns.{index_in}
use Rattle.store_index.specs.OwnLines.{used_in}
use Rattle.store_index.proofs.own.used_lines.Given as goal

abbrev pub invariant-loop-b : goal.invariant-loop-b
invariant-loop-b l = (l.used ≡ count_below l.b (used_in (index_in l.columns))) × (l.used ≤ l.b)
