-- An update with both marks.
use Rattle.std.proofs.Common.{sym}
use Rattle.laws.specs.Arrays.{mark_at}
use Rattle.laws.specs.Below.{any_stop}
use Rattle.laws.specs.Bools.{and_made}
use Rattle.write_marks.specs.StoredMarks.{both_at}
use Rattle.write_marks.proofs.Marked.both_marks.Goals as goal

pub returns-then-self-i-2 : goal.returns-then-self-i-2
unfolding both_at mark_at
returns-then-self-i-2 c = sym (any_stop _ _ _ c.loop-i-test.true (and_made c.if-self-i.true c.if-self-i-2.true))
