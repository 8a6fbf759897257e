-- One more dword in the sum of `bytes_dwords::add_rest`, and the end, where none is left.
use Rattle.std.proofs.Common.{◌*◌, ◌∙◌, arith}
use Rattle.bytes_dwords.proofs.DwordSumLaws.{sum_turn, sum_end}
use Rattle.bytes_dwords.proofs.add_rest.Goals as goal

pub loop-next-preserved : goal.loop-next-preserved
loop-next-preserved c =
    let l = c.loop-next in
    (sum_turn _ _ l.total (4 * l.next) _ _ l.invariant.0 (omega arith) (omega arith) c.add_dword-total.ensures, omega arith)

pub returns : goal.returns
returns c = let l = c.loop-next in sum_end _ l.total (4 * l.next) (omega arith) l.invariant.1 ∙ l.invariant.0
