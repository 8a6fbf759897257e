-- What the count of all updates is, where it stayed below the limit.
use Rattle.std.proofs.Common.{rules}
use Rattle.write_marks.specs.Against.{loses}
use Rattle.write_marks.specs.StoredMarks.{stored_of}
use Rattle.write_marks.proofs.Capped.{losing}
use Rattle.write_marks.proofs.Marked.lost.Goals as goal

pub returns : goal.returns
unfolding loses stored_of
returns c = search (rules, losing)
