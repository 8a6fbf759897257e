-- `report_input::add` meets its contract: the part behind what the buffer holds is replaced, or nothing is.
use Rattle.std.proofs.Common.{arith}
use Rattle.report_input.specs.InputLaws.{put_some, put_none}
use Rattle.report_input.proofs.add.Goals as goal
use Rattle.report_input.proofs.add.Goals.{then-n-gt0, else-n-gt0}

pub returns-clause-buffer_after : goal.returns-clause-buffer_after
returns-clause-buffer_after c =
    elim c.if-n-gt0.branch [
      | then-n-gt0 w ↦ rw (w.buffer-is, w.copy_from_slice.ensures.after) (put_some _ _ _ _ c.fitting-n.ensures _ (omega arith))
      | else-n-gt0 w ↦ rw w.buffer-is (put_none _ _ _ _ c.fitting-n.ensures w.if-n-gt0.false)
    ]
