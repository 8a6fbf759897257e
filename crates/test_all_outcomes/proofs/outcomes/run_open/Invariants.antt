-- Each block passed lies in the store and is open.
use Rattle.std.proofs.Common.{◌≡◌, ◌+◌, ◌^◌, ◌<◌, true}
use Rattle.laws.specs.Below.{all_below}
use Rattle.test_all_outcomes.specs.TriedOutcomes.{open_at}
use Rattle.test_all_outcomes.proofs.outcomes.run_open.Given as goal

abbrev pub invariant-loop-k : goal.invariant-loop-k
invariant-loop-k l = (all_below l.k (open_at l.l l.set l.start) ≡ true) × (l.start + l.k < 2 ^ 32)
