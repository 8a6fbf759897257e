-- `write_marks::Marked::to_fill` meets its contract: the marks passed are right.
use mathlib.Core.Bool.{false}
use Rattle.laws.specs.Arrays.{Filled}
use Rattle.write_marks.specs.Against.{fills}
use Rattle.write_marks.specs.StoredMarks.{stored_of}
use Rattle.write_marks.proofs.Marked.to_fill.Given as goal

abbrev pub invariant-loop-i : goal.invariant-loop-i
invariant-loop-i l = Filled false 32 (fills (stored_of l.self) l.k l.s) l.i l.marks
