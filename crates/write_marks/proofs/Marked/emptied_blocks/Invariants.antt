-- `write_marks::Marked::emptied_blocks` meets its contract: the bits are those of the emptied updates passed.
use mathlib.Core.Path.{◌≡◌}
use Rattle.laws.specs.Bits.{bits_below}
use Rattle.write_marks.specs.StoredMarks.{stored_of}
use Rattle.write_marks.specs.EmptiedBits.{emptied_to}
use Rattle.write_marks.proofs.Marked.emptied_blocks.Given as goal

abbrev pub invariant-loop-i : goal.invariant-loop-i
invariant-loop-i l = l.bits ≡ bits_below 32 (emptied_to (stored_of l.self) l.k l.s l.i)
