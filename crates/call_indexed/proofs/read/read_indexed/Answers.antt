-- `call_indexed::read::read_indexed` meets its contract: the plan, carried out.
use mathlib.Core.Path.{ap, ◌∙◌}
use Rattle.call_reads.specs.Read.{answered, copied}
use Rattle.call_indexed.specs.IndexedRead.{indexed_answer, indexed_bytes}
use Rattle.call_indexed.proofs.IndexedReadLaws.{indexed_copyable}
use Rattle.call_indexed.proofs.read.read_indexed.Goals as goal

pub copy_planned-requires : goal.copy_planned-requires
copy_planned-requires c = indexed_copyable _ _ _ _ _ c.indexed_plan-plan.ensures

pub returns-clause-answers : goal.returns-clause-answers
unfolding indexed_answer
returns-clause-answers c =
    c.copy_planned.ensures.answers ∙ ap answered (rw c.columns_of-columns.ensures at c.indexed_plan-plan.ensures)

pub returns-clause-copies : goal.returns-clause-copies
unfolding indexed_bytes
returns-clause-copies c =
    c.copy_planned.ensures.copies ∙ ap (copied _ _ _) (rw c.columns_of-columns.ensures at c.indexed_plan-plan.ensures)
