-- `bytes_dwords::sum`: nothing summed yet, sixteen dwords more in the four sums, and the end, where the rest begins.
use Rattle.std.proofs.Common.{◌≡◌, ◌*◌, refl, ◌∙◌, arith, rules}
use Rattle.bytes_dwords.proofs.DwordSumLaws.{sum_start, sum_sixteen, sum_four}
use Rattle.bytes_dwords.proofs.sum.Goals as goal

pub loop-turn-init : goal.loop-turn-init
loop-turn-init c = sum_start _

pub loop-turn-preserved : goal.loop-turn-preserved
loop-turn-preserved c =
    let l = c.loop-turn in
    sum_sixteen _ _ (64 * l.turn) _ l.a l.b l.c l.d _ _ _ _ _ _ _ _ _ _ _ _ _ _ _ _ l.invariant (omega arith) (omega arith)
    c.add_dword-a.ensures c.add_dword-b.ensures c.add_dword-c.ensures c.add_dword-d.ensures
    c.add_dword-a-in-loop-turn.ensures c.add_dword-b-in-loop-turn.ensures c.add_dword-c-in-loop-turn.ensures c.add_dword-d-in-loop-turn.ensures
    c.add_dword-a-in-loop-turn-2.ensures c.add_dword-b-in-loop-turn-2.ensures c.add_dword-c-in-loop-turn-2.ensures c.add_dword-d-in-loop-turn-2.ensures
    c.add_dword-a-in-loop-turn-3.ensures c.add_dword-b-in-loop-turn-3.ensures c.add_dword-c-in-loop-turn-3.ensures (search rules)

pub returns : goal.returns
returns c =
    let l = c.loop-turn in
    let e : 4 * (16 * c.turns_in-turns.result) ≡ 64 * l.turn = omega arith in
    c.add_rest.ensures
    ∙ rw e (sum_four _ _ (64 * l.turn) l.a l.b l.c l.d _ _ _ l.invariant refl refl refl)
