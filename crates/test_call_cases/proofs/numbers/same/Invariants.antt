-- The numbers passed are the same.
use Rattle.std.proofs.Common.{◌≡◌, true}
use Rattle.laws.specs.Below.{all_below}
use Rattle.test_call_cases.specs.SameNumbers.{same_at}
use Rattle.test_call_cases.proofs.numbers.same.Given as goal

abbrev pub invariant-loop-i : goal.invariant-loop-i
invariant-loop-i l = all_below l.i (same_at l.x l.y) ≡ true
