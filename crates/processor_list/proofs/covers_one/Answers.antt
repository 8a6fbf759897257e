-- A mark that is set, in `processor_list::covers_one`.
use Rattle.std.proofs.Common.{rules}
use Rattle.laws.specs.Arrays.{mark_at}
use Rattle.laws.specs.Loops.{scan}
use Rattle.processor_list.proofs.covers_one.Goals as goal

pub returns-then-marks-i : goal.returns-then-marks-i
unfolding mark_at
returns-then-marks-i c = search (rules, scan)
