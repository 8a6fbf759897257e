-- A start that touches no update but sharing ones is the choice among all of them.
use Rattle.std.proofs.Common.{arith}
use Rattle.write_placement.specs.Choose.{choose}
use Rattle.write_placement.specs.Choices.{pick_stop}
use Rattle.write_placement.proofs.choose_run.Goals as goal

pub returns-then-untouched : goal.returns-then-untouched
unfolding choose
returns-then-untouched c = pick_stop _ _ _ _ c.loop-s.invariant _ _ _ _ c.tried-sofar.ensures c.untouched.ensures c.if-untouched.true (omega arith)
