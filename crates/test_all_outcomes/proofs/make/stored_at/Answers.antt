-- `test_all_outcomes::make::stored_at` meets its contract: the part from the update's place on is made.
use Rattle.laws.specs.Arrays.{mark_at}
use Rattle.test_all_outcomes.specs.MadeStoreLaws.{stored_there}
use Rattle.test_all_outcomes.proofs.make.stored_at.Goals as goal

pub returns-then-at-buf : goal.returns-then-at-buf
unfolding mark_at
returns-then-at-buf c = search stored_there
