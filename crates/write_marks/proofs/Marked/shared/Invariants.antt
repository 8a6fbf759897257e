-- `write_marks::Marked::shared` meets its contract: `sharing` counts the updates passed that share.
use mathlib.Core.Path.{◌≡◌}
use Prim.Native.Nat.{◌≤◌}
use Rattle.laws.specs.Count.{count_below}
use Rattle.laws.specs.Arrays.{mark_at}
use Rattle.write_marks.proofs.Marked.shared.Given as goal

abbrev pub invariant-loop-i : goal.invariant-loop-i
invariant-loop-i l = (l.sharing ≤ l.i) × (l.sharing ≡ count_below l.i (mark_at l.self.shares))
