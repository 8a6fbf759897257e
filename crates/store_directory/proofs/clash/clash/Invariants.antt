-- No two updates passed share, update i shares with none of those passed, and the array holds the readings of those passed.
use Rattle.std.proofs.Common.{◌≡◌, false}
use Rattle.laws.specs.Below.{any_below}
use Rattle.store_directory.specs.Scan.{clash_at, clash_row}
use Rattle.store_directory.specs.ClashLaws.{Kept}
use Rattle.store_directory.proofs.clash.clash.Given as goal

abbrev pub invariant-loop-j : goal.invariant-loop-j
invariant-loop-j l = any_below l.j (clash_at l.s l.d.starts l.i) ≡ false

abbrev pub invariant-loop-i : goal.invariant-loop-i
invariant-loop-i l = (any_below l.i (clash_row l.s l.d.starts) ≡ false) × Kept l.s l.d.starts l.i l.pairs
