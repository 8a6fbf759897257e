-- What the proof of checks 1 to 8 goes by.
--   lent_few, lent_same    how long the lent lists are, where their rule passes
--   checking               all of it
use Rattle.std.specs.Prelude.{ℕ, ◌≤◌, ◌≡◌, Bool, true, List, length}
use Rattle.std.proofs.Common.{sym, ◌∙◌}
use Rattle.processor_list.specs.Processors.{list_of, list_ok}
use Rattle.processor_list.specs.ListLaws.{list_few, list_same}
use Rattle.store_directory.proofs.StoreLaws.{reading}
use Rattle.store_directory.proofs.ValidLaws.{blocks_few}
use Rattle.write_call.specs.CandidateSizeLaws.{entries_few, good_data, good_count, good_total}
use Rattle.write_call.specs.PlanCases.{plans}
use Rattle.write_call.proofs.Storing.{can_store}
use Rattle.write_call.proofs.WriteCases.{meant_err}

-- r is what a call answered
module _ (signatures platforms : List ℕ) (r : Bool) (e : r ≡ list_ok (list_of signatures platforms)) (h : r ≡ true) where
  pub lent_few : length signatures ≤ 8
  lent_few = list_few (list_of signatures platforms) (sym e ∙ h)

  pub lent_same : length signatures ≡ length platforms
  lent_same = list_same (list_of signatures platforms) (sym e ∙ h)

pub ruleset checking = (reading, lent_few, lent_same, blocks_few, entries_few, good_data, good_count, good_total, plans, can_store, meant_err)
