-- `board_load_words::load_words` meets its contract: the offset of a chosen update fits, since its start is below 32.
use Rattle.std.proofs.Common.{arith}
use Rattle.load_choice.specs.LoadBoundLaws.{load_start}
use Rattle.board_load_words.proofs.load_words.Goals as goal

pub overflow_mul-offset : goal.overflow_mul-offset
overflow_mul-offset c = omega (arith, load_start _ _ _ c.requires c.in-Ok-Some.is (rw c.in-Ok-Some.is at c.in-Ok-Some.field-0-is))

pub overflow_add-offset : goal.overflow_add-offset
overflow_add-offset c = omega (arith, load_start _ _ _ c.requires c.in-Ok-Some.is (rw c.in-Ok-Some.is at c.in-Ok-Some.field-0-is))
