-- The loop's invariant of `store_index::after::clear_lines`: the lines of the emptied blocks passed are unused.
use Rattle.store_index.specs.AfterLines.{Cleared}
use Rattle.store_index.proofs.after.clear_lines.Given as goal

abbrev pub invariant-loop-b : goal.invariant-loop-b
invariant-loop-b l = Cleared l.emptied l.b l.fn.columns l.columns
