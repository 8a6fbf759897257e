-- What the loop of `processor_list::is_needed` keeps: the update covers no unmarked processor passed.
use Rattle.std.proofs.Common.{◌≡◌, false}
use Rattle.laws.specs.Below.{any_below}
use Rattle.processor_list.specs.Processors.{list_of}
use Rattle.processor_list.specs.Covered.{needed_by_marks}
use Rattle.processor_list.proofs.is_needed.Given as goal

abbrev pub invariant-loop-i : goal.invariant-loop-i
invariant-loop-i l = any_below l.i (needed_by_marks (list_of l.signatures l.platforms) l.marks l.u) ≡ false
