-- The loop's invariant of `load_indexed::find_in`: the update of no block passed covers the processor, and each block has its line.
use Rattle.std.proofs.Common.{◌≡◌, ◌≤◌, false}
use Rattle.laws.specs.Below.{any_below}
use Rattle.store_index.specs.IndexColumns.{index_in}
use Rattle.load_indexed.specs.IndexedLoad.{holds_in}
use Rattle.load_indexed.proofs.find_in.Given as goal

abbrev pub invariant-loop-b : goal.invariant-loop-b
invariant-loop-b l = (any_below l.b (holds_in l.store (index_in l.columns) l.signature l.platform) ≡ false) × (l.b-end ≤ 32)
