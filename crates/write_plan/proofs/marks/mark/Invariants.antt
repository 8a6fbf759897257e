-- The loop's invariant: the marks of the updates passed are right.
use Rattle.std.proofs.Common.{false}
use Rattle.laws.specs.Arrays.{Filled}
use Rattle.processor_list.specs.Processors.{list_of}
use Rattle.write_plan.specs.CandidateMarks.{shares_entry, needed_entry}
use Rattle.write_plan.proofs.marks.mark.Given as goal

abbrev pub invariant-loop-i : goal.invariant-loop-i
invariant-loop-i l =
    record {
      shares : Filled false 32 (shares_entry l.fn.store l.fn.candidate) l.i l.shares;
      needed : Filled false 32 (needed_entry l.fn.store (list_of l.fn.signatures l.fn.platforms) l.fn.candidate) l.i l.needed;
    }
