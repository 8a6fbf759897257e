-- The marks before the loop, and one more.
use Rattle.std.proofs.Common.{arith}
use Rattle.laws.specs.Arrays.{filled_none, filled_more}
use Rattle.write_marks.specs.Against.{fills}
use Rattle.write_marks.specs.StoredMarks.{stored_of}
use Rattle.write_marks.proofs.Marked.to_fill.Goals as goal

pub loop-i-init : goal.loop-i-init
loop-i-init c = filled_none _ _ _

pub loop-i-preserved : goal.loop-i-preserved
unfolding fills stored_of
loop-i-preserved c = filled_more _ _ _ _ _ _ c.loop-i.invariant (omega arith) (rw c.at.ensures at c.fills.ensures)
