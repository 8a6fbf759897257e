-- What the loop of `processor_list::covers_one` keeps: no mark passed is set.
use Rattle.std.proofs.Common.{◌≡◌, false}
use Rattle.laws.specs.Below.{any_below}
use Rattle.laws.specs.Arrays.{mark_at}
use Rattle.processor_list.proofs.covers_one.Given as goal

abbrev pub invariant-loop-i : goal.invariant-loop-i
invariant-loop-i l = any_below l.i (mark_at l.marks) ≡ false
