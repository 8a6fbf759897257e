-- A pair that covers the processor, in `update_coverage::covers_with`.
use Rattle.laws.specs.Loops.{scan}
use Rattle.update_coverage.specs.Covers.{covers}
use Rattle.update_coverage.proofs.PairLaws.{count_is}
use Rattle.update_coverage.proofs.covers_with.Goals as goal

pub returns-then-covers_at : goal.returns-then-covers_at
unfolding covers
returns-then-covers_at c = search (scan, count_is)
