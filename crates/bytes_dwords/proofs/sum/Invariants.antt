-- What the loop of `bytes_dwords::sum` keeps: what is summed so far, with the dwords that are left, is the whole sum.
use Rattle.std.proofs.Common.{◌≡◌, ◌+◌, ◌*◌}
use Rattle.bytes_dwords.specs.Sum.{dword_sum}
use Rattle.bytes_dwords.specs.Summed.{summed}
use Rattle.bytes_dwords.proofs.sum.Given as goal

abbrev pub invariant-loop-turn : goal.invariant-loop-turn
invariant-loop-turn l = summed l.s (l.a + l.b + l.c + l.d) (64 * l.turn) ≡ dword_sum l.s
