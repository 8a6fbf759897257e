-- An update that rules the start out.
use Rattle.std.specs.Prelude.{refl}
use Rattle.laws.specs.Loops.{scan_stop}
use Rattle.write_marks.specs.Against.{rules_out, ruled_out}
use Rattle.write_marks.specs.StoredMarks.{stored_of}
use Rattle.write_marks.proofs.Marked.ruled_out.Goals as goal

pub returns-then-rules_out : goal.returns-then-rules_out
unfolding ruled_out rules_out stored_of
returns-then-rules_out c = scan_stop _ _ _ _ _ refl c.loop-i-test.true (rw c.at.ensures at c.rules_out.ensures) c.if-rules_out.true
