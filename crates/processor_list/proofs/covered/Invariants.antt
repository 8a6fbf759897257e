-- What the loop of `processor_list::covered` keeps: the marks passed are right.
use Rattle.std.proofs.Common.{false}
use Rattle.laws.specs.Arrays.{Filled}
use Rattle.processor_list.specs.Processors.{list_of, covers_listed}
use Rattle.processor_list.proofs.covered.Given as goal

abbrev pub invariant-loop-i : goal.invariant-loop-i
invariant-loop-i l = Filled false 8 (covers_listed (list_of l.signatures l.platforms) l.candidate) l.i l.marks
