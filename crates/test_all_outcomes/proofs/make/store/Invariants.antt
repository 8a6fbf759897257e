-- The updates passed are in the store.
use Rattle.std.proofs.Common.{◌≡◌}
use Rattle.test_all_outcomes.specs.MadeStores.{placed}
use Rattle.test_all_outcomes.proofs.make.store.Given as goal

abbrev pub invariant-loop-i : goal.invariant-loop-i
invariant-loop-i l = l.buf ≡ placed l.initial.buf l.l l.i
