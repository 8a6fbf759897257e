-- What the loops of `update_sharing::pairs_share` keep: no pair of `a` passed shares with a pair of `b`, and pair `i` shares with none of those passed.
use Rattle.std.proofs.Common.{◌≡◌, false}
use Rattle.laws.specs.Below.{any_below, rows}
use Rattle.update_coverage.specs.Covers.{pair_count}
use Rattle.update_sharing.specs.Shares.{shares_at}
use Rattle.update_sharing.proofs.pairs_share.Given as goal

abbrev pub invariant-loop-i : goal.invariant-loop-i
invariant-loop-i l = any_below l.i (rows (pair_count l.b) (shares_at l.a l.b)) ≡ false

abbrev pub invariant-loop-j : goal.invariant-loop-j
invariant-loop-j l = any_below l.j (shares_at l.a l.b l.i) ≡ false
