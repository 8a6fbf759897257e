-- `o` is the best of the sets passed.
use Rattle.std.proofs.Common.{◌≡◌}
use Rattle.test_all_outcomes.specs.TriedOutcomes.{best_at}
use Rattle.test_all_outcomes.proofs.outcomes.best_at.Given as goal

abbrev pub invariant-loop-k : goal.invariant-loop-k
invariant-loop-k l = l.o ≡ best_at l.fn.old l.l l.n l.start l.k
