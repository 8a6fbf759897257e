-- `test_all_outcomes::outcomes::open` meets its contract: the four updates are gone through.
use Rattle.std.proofs.Common.{◌∙◌, rules}
use borrow.Author.Tests.{tests}
use Rattle.std.proofs.lemmas.Iterator.{YieldsList-from_range}
use Rattle.std.proofs.lemmas.Iterator.Search.{all_from_yields_List}
use Rattle.test_all_outcomes.specs.TriedOutcomes.{free_of, is_open}
use Rattle.test_all_outcomes.specs.TriedOutcomeLaws.{all_four}
use Rattle.test_all_outcomes.proofs.outcomes.open.Goals as goal

pub returns : goal.returns
unfolding is_open
returns c =
    all_from_yields_List (free_of c.args.l c.args.set c.args.c) _ _ _ c.all.ensures.ran (YieldsList-from_range 0 4 4 (search rules) (search rules)) (λ x b q k. search (rules, tests))
    ∙ all_four (free_of c.args.l c.args.set c.args.c)
