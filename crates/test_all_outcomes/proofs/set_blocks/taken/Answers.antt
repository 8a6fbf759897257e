-- `test_all_outcomes::set_blocks::taken` meets its contract: the four updates are gone through.
use Rattle.std.proofs.Common.{◌∙◌, rules}
use borrow.Author.Tests.{tests}
use Rattle.std.proofs.lemmas.Iterator.{YieldsList-from_range}
use Rattle.std.proofs.lemmas.Iterator.Search.{any_from_yields_List}
use Rattle.test_all_outcomes.specs.SetBlocks.{takes, taken}
use Rattle.test_all_outcomes.specs.TriedOutcomeLaws.{any_four}
use Rattle.test_all_outcomes.proofs.set_blocks.taken.Goals as goal

pub returns : goal.returns
unfolding taken
returns c =
    any_from_yields_List (takes c.args.l c.args.set c.args.c) _ _ _ c.any.ensures.ran (YieldsList-from_range 0 4 4 (search rules) (search rules)) (λ x b q k. search (rules, tests))
    ∙ any_four (takes c.args.l c.args.set c.args.c)
