-- `update_coverage::judged_pairs`: an update with pairs has right sizes, so its header is lent, and the numbers read are its reading.
use Rattle.std.proofs.Common.{arith}
use Rattle.update_coverage.specs.Covers.{flags_offset, flags_at, platforms_at}
use Rattle.update_coverage.proofs.PairLaws.{data_read, judged_reading}
use Rattle.update_coverage.proofs.judged_pairs.Goals as goal

pub returns : goal.returns
unfolding platforms_at flags_at flags_offset
returns c =
    judged_reading _ c.requires _ c.judged_entries.ensures _ _ _ _ (data_read _ _ _ c.dword_inside-stored.ensures c.data_size_of-d.ensures) (omega arith)
    c.dword_inside-2.ensures (rw c.dword_inside-3.ensures)
