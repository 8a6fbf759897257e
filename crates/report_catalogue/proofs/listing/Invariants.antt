-- `report_catalogue::listing`: the lines of the entries passed are added, their blocks taken off.
use Rattle.std.proofs.Common.{◌≡◌, ◌+◌, ◌*◌, ◌≤◌}
use Rattle.report_text.specs.Texts.{added}
use Rattle.report_catalogue.specs.Walk.{longest_line, entries_to, used_to}
use Rattle.report_catalogue.proofs.listing.Given as goal

abbrev pub invariant-loop-i : goal.invariant-loop-i
invariant-loop-i l =
    record {
      lines : l.t ≡ added l.initial.t (entries_to l.s l.d l.i);
      left : l.free + used_to l.d l.i ≡ l.n;
      long : l.t.len ≤ 10 + longest_line * l.i;
    }
