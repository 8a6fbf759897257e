-- `n` counts the updates passed that the set has.
use Rattle.std.proofs.Common.{◌≡◌, ◌≤◌}
use Rattle.laws.specs.Count.{count_below}
use Rattle.laws.specs.Arrays.{mark_at}
use Rattle.test_all_outcomes.proofs.outcomes.size.Given as goal

abbrev pub invariant-loop-i : goal.invariant-loop-i
invariant-loop-i l = (l.n ≡ count_below l.i (mark_at l.set.has)) × (l.n ≤ l.i)
