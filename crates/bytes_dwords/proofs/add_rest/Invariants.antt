-- What the loop of `bytes_dwords::add_rest` keeps: the sum so far, with the dwords that are left, is that of the start.
use Rattle.std.proofs.Common.{◌≡◌, ◌*◌, ◌^◌, ◌<◌}
use Rattle.bytes_dwords.specs.Summed.{summed}
use Rattle.bytes_dwords.proofs.add_rest.Given as goal

abbrev pub invariant-loop-next : goal.invariant-loop-next
invariant-loop-next l = (summed l.s l.total (4 * l.next) ≡ summed l.s l.sum (4 * l.i)) × (l.total < 2 ^ 32)
