-- The loop's invariant of `store_index::lines::put_lines`: the lines passed are the update's, and the others stay.
use Rattle.store_index.specs.UpdateLines.{LinesPut}
use Rattle.store_index.proofs.lines.put_lines.Given as goal

abbrev pub invariant-loop-b : goal.invariant-loop-b
invariant-loop-b l = LinesPut l.start l.revision l.size l.b l.fn.columns l.columns
