-- `store_blocks::filled` meets its contract, by the laws of the `and`.
use Rattle.std.proofs.Common.{arith}
use Rattle.store_blocks.specs.FilledLaws.{and_none, and_more, and_end}
use Rattle.store_blocks.proofs.filled.Goals as goal

pub loop-k-init : goal.loop-k-init
loop-k-init c = and_none _ _

pub loop-k-preserved : goal.loop-k-preserved
loop-k-preserved c =
    and_more _ _ (λ j. omega (arith, c.type_inv.s j)) c.loop-k.k c.loop-k.all _ (omega arith) c.loop-k.invariant c.dword_inside-all.ensures

pub returns : goal.returns
returns c = and_end _ _ c.loop-k.k _ c.loop-k.all (omega arith) (omega arith) (omega arith) c.loop-k.invariant
