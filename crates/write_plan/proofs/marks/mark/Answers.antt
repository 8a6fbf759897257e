-- `write_plan::marks::mark` meets its contract, by the laws of an array that is filled.
use Rattle.std.proofs.Common.{rules}
use Rattle.write_plan.specs.CandidateMarkLaws.{marking}
use Rattle.write_plan.proofs.marks.mark.Goals as goal

pub loop-i-init : goal.loop-i-init
loop-i-init c = search marking

pub loop-i-preserved : goal.loop-i-preserved
loop-i-preserved c = search (rules, marking)
