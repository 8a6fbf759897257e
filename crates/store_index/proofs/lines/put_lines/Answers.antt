-- `store_index::lines::put_lines` meets its contract: a turn of the loop writes one more line.
use Rattle.store_index.proofs.UpdateLineLaws.{lines_turn}
use Rattle.store_index.proofs.lines.put_lines.Goals as goal

pub loop-b-preserved : goal.loop-b-preserved
loop-b-preserved c = lines_turn _ _ _ _ _ _ _ _ c.loop-b.invariant c.loop-b.auto.b c.kind_from.ensures c.put_line.ensures
