-- `write_outcome::bytes::empty_marked` meets its contract: the marked ones of the entries passed are emptied.
use mathlib.Core.Path.{◌≡◌}
use Rattle.write_outcome.specs.Cleared.{cleared}
use Rattle.write_outcome.specs.EmptiedEntries.{marked}
use Rattle.write_outcome.proofs.bytes.empty_marked.Given as goal

abbrev pub invariant-loop-i : goal.invariant-loop-i
invariant-loop-i l = l.store ≡ cleared l.fn.store (marked l.starts l.gone l.i)
