-- One more entry.
use Rattle.write_outcome.proofs.EmptiedEntries.{marks_more}
use Rattle.write_outcome.proofs.bytes.empty_marked.Goals as goal

pub loop-i-preserved : goal.loop-i-preserved
loop-i-preserved c = marks_more _ _ _ _ _ _ _ _ c.requires c.loop-i-test.true c.loop-i.invariant c.empty_if.ensures
