-- `update_coverage::signature_at`: each pair lies inside, and the field is read from there.
use Rattle.std.proofs.Common.{arith}
use Rattle.update_coverage.specs.Covers.{signature_at, signature_offset}
use Rattle.update_coverage.proofs.PairLaws.{data_is, pairing}
use Rattle.update_coverage.proofs.signature_at.Goals as goal

pub field_offset-requires : goal.field_offset-requires
field_offset-requires c = (search pairing, omega arith)

pub dword_inside-requires : goal.dword_inside-requires
dword_inside-requires c = search pairing

pub returns : goal.returns
unfolding signature_at signature_offset
returns c = grind (arith, data_is)
