-- `write_marks::Marked::both_marks` meets its contract: no update passed has both marks.
use mathlib.Core.Path.{◌≡◌}
use mathlib.Core.Bool.{false}
use Rattle.laws.specs.Below.{any_below}
use Rattle.write_marks.specs.StoredMarks.{both_at}
use Rattle.write_marks.proofs.Marked.both_marks.Given as goal

abbrev pub invariant-loop-i : goal.invariant-loop-i
invariant-loop-i l = any_below l.i (both_at l.self.shares l.self.needed) ≡ false
