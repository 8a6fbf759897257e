-- `store_index::own::used_lines` meets its contract: a turn of the loop counts one more line, or none.
use Rattle.std.proofs.Common.{arith}
use Rattle.laws.specs.Count.{count_none}
use Rattle.store_index.specs.OwnLineLaws.{used_not, used_more}
use Rattle.store_index.proofs.own.used_lines.Goals as goal
use Rattle.store_index.proofs.own.used_lines.Goals.{then-all-ne0, else-all-ne0}

pub loop-b-init : goal.loop-b-init
loop-b-init c = (count_none _, omega arith)

pub loop-b-preserved : goal.loop-b-preserved
loop-b-preserved c =
    let l = c.loop-b in
    elim c.if-all-ne0.branch [
      | then-all-ne0 w ↦ (rw w.used-is (used_more _ l.b _ l.invariant.0 w.if-all-ne0.true), omega arith)
      | else-all-ne0 w ↦ (rw w.used-is (used_not _ l.b _ l.invariant.0 w.if-all-ne0.false), omega arith)
    ]
