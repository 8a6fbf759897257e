-- `test_all_outcomes::outcomes::allowed` meets its contract: the four updates are gone through.
use Rattle.std.proofs.Common.{◌∙◌, rules}
use borrow.Author.Tests.{tests}
use Rattle.std.proofs.lemmas.Iterator.{YieldsList-from_range}
use Rattle.std.proofs.lemmas.Iterator.Search.{all_from_yields_List}
use Rattle.test_all_outcomes.specs.TriedOutcomes.{allowed_at, allowed}
use Rattle.test_all_outcomes.specs.TriedOutcomeLaws.{all_four}
use Rattle.test_all_outcomes.proofs.outcomes.allowed.Goals as goal

pub returns : goal.returns
unfolding allowed
returns c =
    all_from_yields_List (allowed_at c.args.l c.args.set) _ _ _ c.all.ensures.ran (YieldsList-from_range 0 4 4 (search rules) (search rules)) (λ x b q k. search (rules, tests))
    ∙ all_four (allowed_at c.args.l c.args.set)
