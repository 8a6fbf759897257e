-- `test_all_outcomes::outcomes::run_open` meets its contract: the block lies behind the store, or isn't open.
use Rattle.test_all_outcomes.specs.TriedOutcomeLaws.{opened}
use Rattle.test_all_outcomes.proofs.outcomes.run_open.Goals as goal
use Rattle.test_all_outcomes.proofs.outcomes.run_open.Goals.{then-c-l-via-then-c-l, then-c-l-via-else-c-l+then-not-open}

pub returns-then-c-l : goal.returns-then-c-l
returns-then-c-l c =
    elim c.then-c-l.branch [ then-c-l-via-then-c-l w ↦ search opened | then-c-l-via-else-c-l+then-not-open w ↦ search opened ]
