-- `store_index::own::update_lines` meets its contract: a turn of the loop gathers one more line.
use Rattle.store_index.specs.OwnLineLaws.{update_none, update_more}
use Rattle.store_index.proofs.own.update_lines.Goals as goal

pub loop-b-init : goal.loop-b-init
loop-b-init c = update_none _ _ _ _ _

pub loop-b-preserved : goal.loop-b-preserved
loop-b-preserved c = update_more _ _ _ _ _ _ _ _ c.loop-b.invariant c.loop-b.auto.b c.kind_from.ensures
