-- `call_reads::read::read` meets its contract: the plan, carried out.
use mathlib.Core.Path.{ap, ◌∙◌}
use Rattle.call_reads.specs.Read.{answered, copied, read_answer, read_bytes}
use Rattle.call_reads.proofs.ReadLaws.{copyable}
use Rattle.call_reads.proofs.read.read.Goals as goal

pub copy_planned-requires : goal.copy_planned-requires
copy_planned-requires c = copyable _ _ _ _ c.read_plan-plan.ensures

pub returns-clause-answers : goal.returns-clause-answers
unfolding read_answer
returns-clause-answers c = c.copy_planned.ensures.answers ∙ ap answered c.read_plan-plan.ensures

pub returns-clause-copies : goal.returns-clause-copies
unfolding read_bytes
returns-clause-copies c = c.copy_planned.ensures.copies ∙ ap (copied _ _ _) c.read_plan-plan.ensures
