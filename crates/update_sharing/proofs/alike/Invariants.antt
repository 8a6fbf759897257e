-- What the loop of `update_sharing::alike` keeps: `count` counts the pairs passed that have the signature.
use Rattle.std.proofs.Common.{◌≡◌, ◌≤◌}
use Rattle.laws.specs.Count.{count_below}
use Rattle.update_sharing.specs.Shares.{has_signature}
use Rattle.update_sharing.proofs.alike.Given as goal

abbrev pub invariant-loop-j : goal.invariant-loop-j
invariant-loop-j l = (l.count ≤ l.j) × (l.count ≡ count_below l.j (has_signature l.x l.b))
