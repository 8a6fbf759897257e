-- `store_index::after::clear_lines` meets its contract: a turn of the loop clears one more line, or leaves it; where no bit is left all stand.
use Rattle.std.proofs.Common.{◌≡◌, refl, arith}
use Rattle.store_index.proofs.AfterLineLaws.{low_few, clear_none, clear_set, clear_unset, clear_done}
use Rattle.store_index.proofs.after.clear_lines.Goals as goal
use Rattle.store_index.proofs.after.clear_lines.Goals.{then-here, else-here}

pub loop-b-init : goal.loop-b-init
loop-b-init c = clear_none _ _ _ c.low_zeros-b.ensures c.requires

pub returns-then-left-eq0 : goal.returns-then-left-eq0
returns-then-left-eq0 c = clear_done _ _ c.loop-b.b _ _ (omega arith) refl c.if-left-eq0.true c.loop-b.invariant

pub loop-b-preserved : goal.loop-b-preserved
loop-b-preserved c =
    elim c.if-here.branch [
      | then-here w ↦ rw w.columns-is (clear_set _ _ c.loop-b.b _ refl _ c.loop-b.invariant (omega arith) _ w.put_line.ensures)
      | else-here w ↦ rw w.columns-is (clear_unset _ _ c.loop-b.b _ refl _ c.loop-b.invariant (λ e. omega arith))
    ]

pub returns : goal.returns
returns c = let e : c.loop-b.b ≡ 32 = omega (arith, low_few _ _ c.low_zeros-b.ensures) in rw e at c.loop-b.invariant
