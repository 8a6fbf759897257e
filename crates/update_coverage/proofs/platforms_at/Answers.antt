-- `update_coverage::platforms_at`: each pair lies inside, and the field is read from there.
use Rattle.std.proofs.Common.{arith}
use Rattle.update_coverage.specs.Covers.{platforms_at, flags_at, flags_offset}
use Rattle.update_coverage.proofs.PairLaws.{data_is, pairing}
use Rattle.update_coverage.proofs.platforms_at.Goals as goal

pub field_offset-requires : goal.field_offset-requires
field_offset-requires c = (search pairing, omega arith)

pub dword_inside-requires : goal.dword_inside-requires
dword_inside-requires c = search pairing

pub returns : goal.returns
unfolding platforms_at flags_at flags_offset
returns c = grind (arith, data_is)
