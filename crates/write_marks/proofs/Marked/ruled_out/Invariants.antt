-- `write_marks::Marked::ruled_out` meets its contract: no update passed rules the start out.
use mathlib.Core.Path.{◌≡◌}
use mathlib.Core.Bool.{false}
use Rattle.laws.specs.Below.{any_below}
use Rattle.write_marks.specs.Against.{rules_out}
use Rattle.write_marks.specs.StoredMarks.{stored_of}
use Rattle.write_marks.proofs.Marked.ruled_out.Given as goal

abbrev pub invariant-loop-i : goal.invariant-loop-i
invariant-loop-i l = any_below l.i (rules_out (stored_of l.self) l.k l.s) ≡ false
