-- The loop's invariant: each entry passed has the right sum.
use Rattle.std.proofs.Common.{◌≡◌, true}
use Rattle.laws.specs.Below.{all_below}
use Rattle.update_verdict.specs.Sums.{entry_ok}
use Rattle.update_verdict.proofs.sums.entries_ok.Given as goal

abbrev pub invariant-loop-k : goal.invariant-loop-k
invariant-loop-k l = all_below l.k (entry_ok l.s l.d l.want) ≡ true
