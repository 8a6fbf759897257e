-- The loop's invariant of `load_choice::find`: the update of no entry passed covers the processor.
use Rattle.std.proofs.Common.{◌≡◌, false}
use Rattle.laws.specs.Below.{any_below}
use Rattle.load_choice.specs.LoadLaws.{covers_entry}
use Rattle.load_choice.proofs.find.Given as goal

abbrev pub invariant-loop-i : goal.invariant-loop-i
invariant-loop-i l = any_below l.i (covers_entry l.store l.d l.signature l.platform) ≡ false
