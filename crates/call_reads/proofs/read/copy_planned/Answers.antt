-- `call_reads::read::copy_planned` meets its contract: what a copy leaves.
use Rattle.call_reads.proofs.ReadLaws.{copying}
use Rattle.call_reads.proofs.read.copy_planned.Goals as goal

pub returns-in-Ok-clause-copies : goal.returns-in-Ok-clause-copies
returns-in-Ok-clause-copies c = search copying
