-- A processor that needs the update, in `processor_list::is_needed`.
use Rattle.std.proofs.Common.{rules}
use Rattle.laws.specs.Arrays.{mark_at}
use Rattle.laws.specs.Loops.{scan}
use Rattle.processor_list.specs.Covered.{needed_by_marks}
use Rattle.processor_list.proofs.is_needed.Goals as goal

pub returns-then-needed_for : goal.returns-then-needed_for
unfolding needed_by_marks mark_at
returns-then-needed_for c = search (rules, scan)
