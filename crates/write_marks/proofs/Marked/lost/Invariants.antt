-- `write_marks::Marked::lost` meets its contract: `touched` counts the updates passed that are lost, and stays below the limit.
use mathlib.Core.Path.{◌≡◌}
use Prim.Native.Nat.{◌≤◌, ◌-◌}
use Rattle.laws.specs.Count.{count_below}
use Rattle.write_marks.specs.Against.{loses}
use Rattle.write_marks.specs.StoredMarks.{stored_of}
use Rattle.write_marks.proofs.Marked.lost.Given as goal

abbrev pub invariant-loop-i : goal.invariant-loop-i
invariant-loop-i l = (l.touched ≡ count_below l.i (loses (stored_of l.self) l.k l.s)) × (l.touched ≤ l.i) × (l.touched ≤ l.limit - 1)
