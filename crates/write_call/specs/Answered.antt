-- What the write answers where checks 1 to 6 pass.
--   NoLegal          there is no legal outcome
--   FullOrPlanned    the plan is a full store's refusal, and then no outcome is legal, or a start and a count
use Rattle.std.specs.Prelude.{ℕ, ◌≡◌, Bool, List, Err}
use Rattle.processor_list.specs.Processors.{ProcessorList}
use Rattle.update_header.specs.Fields.{total_size}
use Rattle.write_outcome.specs.Legal.{Legal}
use Rattle.call_answers.specs.Codes.{storage_full}
use Rattle.call_answers.specs.Refusals.{ah_for}
use Rattle.call_answers.specs.declared.refusal.Refusal.{Refusal}
use Rattle.write_plan.specs.Plan.{run}
use Rattle.write_call.specs.Write.{write_plan}

abbrev pub NoLegal : List ℕ → ProcessorList → List ℕ → Type 0
NoLegal old list cand = (start : ℕ) (e : ℕ → Bool) → Legal old list cand (total_size cand) start e → ⊥

pub data FullOrPlanned (old : List ℕ) (list : ProcessorList) (cand : List ℕ) : Type 0 where
  full : (r : Refusal) → ah_for r ≡ storage_full → write_plan old list cand ≡ Err r → NoLegal old list cand → FullOrPlanned old list cand
  planned : (start emptied : ℕ) → write_plan old list cand ≡ run start emptied → FullOrPlanned old list cand
