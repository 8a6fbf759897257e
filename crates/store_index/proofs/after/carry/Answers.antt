-- `store_index::after::carry` meets its contract: the emptied lines cleared, then the run written.
use native.Mathlib.Omega.{arith}
use Rattle.store_index.proofs.AfterLineLaws.{run_inside, after_run, after_none}
use Rattle.store_index.proofs.after.carry.Goals as goal

pub put_lines-requires : goal.put_lines-requires
put_lines-requires c = (omega arith, rw c.run_end-end.ensures (run_inside _ _), c.clear_lines.ensures.long)

pub returns-then-start-end : goal.returns-then-start-end
returns-then-start-end c = after_run _ _ _ _ _ _ c.run_end-end.ensures _ c.clear_lines.ensures _ c.put_lines.ensures

pub returns-else-start-end : goal.returns-else-start-end
returns-else-start-end c = after_none _ _ _ _ _ _ c.run_end-end.ensures _ c.clear_lines.ensures c.if-start-end.false
