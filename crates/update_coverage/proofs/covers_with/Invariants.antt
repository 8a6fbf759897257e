-- What the loop of `update_coverage::covers_with` keeps: no pair passed covers the processor.
use Rattle.std.proofs.Common.{◌≡◌, false}
use Rattle.laws.specs.Below.{any_below}
use Rattle.update_coverage.specs.Covers.{covers_at}
use Rattle.update_coverage.proofs.covers_with.Given as goal

abbrev pub invariant-loop-i : goal.invariant-loop-i
invariant-loop-i l = any_below l.i (covers_at l.u l.signature l.platform) ≡ false
