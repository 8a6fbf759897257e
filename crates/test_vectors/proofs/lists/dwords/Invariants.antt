-- The first `i` numbers are read.
use Rattle.std.proofs.Common.{◌≡◌, length, take}
use Rattle.test_vectors.specs.Operands.{dwords}
use Rattle.test_vectors.proofs.lists.dwords.Given as goal

abbrev pub invariant-loop-i : goal.invariant-loop-i
invariant-loop-i l = (take l.i l.list ≡ dwords l.b l.i) × (length l.list ≡ 16)
