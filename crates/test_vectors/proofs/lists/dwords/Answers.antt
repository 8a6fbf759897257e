-- `test_vectors::lists::dwords` meets its contract: one number more is read.
use Rattle.std.proofs.Common.{arith, length-set, rules}
use Rattle.test_vectors.specs.OperandLaws.{dwords_more}
use Rattle.test_vectors.proofs.lists.dwords.Goals as goal

pub loop-i-preserved : goal.loop-i-preserved
loop-i-preserved c = (dwords_more _ _ _ _ c.loop-i.invariant.0 (omega arith) c.dword.ensures, simp length-set (search rules))
