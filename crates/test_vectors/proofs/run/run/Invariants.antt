-- There is room for the lengths.
use Rattle.test_vectors.specs.RunState.{Within}
use Rattle.test_vectors.proofs.run.run.Given as goal

abbrev pub invariant-loop : goal.invariant-loop
invariant-loop g l = Within l.s
