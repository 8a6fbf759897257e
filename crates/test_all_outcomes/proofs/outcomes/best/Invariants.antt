-- `o` is the best of the starts passed.
use Rattle.std.proofs.Common.{◌≡◌}
use Rattle.test_all_outcomes.specs.TriedOutcomes.{best_to}
use Rattle.test_all_outcomes.proofs.outcomes.best.Given as goal

abbrev pub invariant-loop-start : goal.invariant-loop-start
invariant-loop-start l = l.o ≡ best_to l.l l.n l.start
