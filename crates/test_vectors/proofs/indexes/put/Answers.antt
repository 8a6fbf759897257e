-- The place that was read is one of the 128.
use Rattle.std.proofs.Common.{sym, ◌∙◌}
use Rattle.test_vectors.specs.OperandLaws.{good_place}
use Rattle.test_vectors.proofs.indexes.put.Goals as goal

pub set_number-requires : goal.set_number-requires
set_number-requires g c = good_place _ _ (sym c.in-Some-put_operands.is ∙ c.put_operands.ensures)
