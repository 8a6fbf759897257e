-- `write_placement::choose_run` meets its contract. The loop's invariant: `sofar` is the choice among the starts passed. It stops at a start that touches no update but sharing ones.
use mathlib.Core.Path.{◌≡◌}
use Rattle.laws.specs.Least.{least}
use Rattle.write_marks.specs.Against.{ruled_out, lost}
use Rattle.write_marks.specs.StoredMarks.{stored_of}
use Rattle.write_placement.specs.Choices.{choice_of}
use Rattle.write_placement.proofs.choose_run.Given as goal

abbrev pub invariant-loop-s : goal.invariant-loop-s
invariant-loop-s l = l.sofar ≡ choice_of (least (ruled_out (stored_of l.m) l.k) (lost (stored_of l.m) l.k) l.s)
