-- The updates passed are emptied.
use Rattle.std.proofs.Common.{◌≡◌}
use Rattle.test_all_outcomes.specs.WantedStores.{emptied_to}
use Rattle.test_all_outcomes.proofs.trial.empty_all.Given as goal

abbrev pub invariant-loop-i : goal.invariant-loop-i
invariant-loop-i l = l.buf ≡ emptied_to l.initial.buf l.l l.set l.i
