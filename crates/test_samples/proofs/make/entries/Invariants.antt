-- `test_samples::make::entries`: the entries below `k` are written.
use Rattle.std.proofs.Common.{◌≡◌}
use Rattle.test_samples.specs.Make.{entries}
use Rattle.test_samples.proofs.make.entries.Given as goal

abbrev pub invariant-loop-k : goal.invariant-loop-k
invariant-loop-k l = l.buf ≡ entries l.initial.buf l.at l.signature l.flags l.k
