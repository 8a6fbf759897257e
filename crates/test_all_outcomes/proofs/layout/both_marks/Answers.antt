-- `test_all_outcomes::layout::both_marks` meets its contract: the four updates are gone through.
use Rattle.std.proofs.Common.{◌∙◌, rules}
use borrow.Author.Tests.{tests}
use Rattle.std.proofs.lemmas.Iterator.{YieldsList-from_range}
use Rattle.std.proofs.lemmas.Iterator.Search.{any_from_yields_List}
use Rattle.laws.specs.Arrays.{mark_at}
use Rattle.test_all_outcomes.specs.SmallLayouts.{both_at, both_marks}
use Rattle.test_all_outcomes.specs.TriedOutcomeLaws.{any_four}
use Rattle.test_all_outcomes.proofs.layout.both_marks.Goals as goal

pub returns : goal.returns
unfolding both_marks both_at mark_at
returns c =
    any_from_yields_List (both_at c.args.l) _ _ _ c.any.ensures.ran (YieldsList-from_range 0 4 4 (search rules) (search rules)) (λ x b q k. search (rules, tests))
    ∙ any_four (both_at c.args.l)
