-- The loop's invariant of `store_index::put_index`: the lines of the updates passed stand, and the others are unused.
use Rattle.std.proofs.Common.{◌≤◌}
use Rattle.store_index.specs.IndexLines.{LinesTo}
use Rattle.store_index.proofs.put_index.Given as goal

abbrev pub invariant-loop-i : goal.invariant-loop-i
invariant-loop-i l = LinesTo l.store l.d l.i l.columns × (l.d.count ≤ 32)
