-- Demand 1, in the owner's words, with document 01's "Nothing turns loading off", "only" and codes.
--   Unknown     an unknown function, sub-function or control task
--   Same        store, destination and loading state are as they were
--   Demand1     the demand, a field for each sentence
use Rattle.std.specs.Prelude.{ℕ, ◌<◌, ◌≡◌, true, List, ◌⊎◌}
use Rattle.call_answers.specs.Codes.{not_implemented}
use Rattle.call_answers.specs.Answers.{ah_of, Coded}
use Rattle.call_answers.specs.declared.answer.Reply.{Reply}
use Rattle.call_answers.specs.declared.answer.Written.{Written as WrittenNumbers}
use Rattle.call_answers.specs.declared.answer.Read.{Read as ReadNumbers}
use Rattle.call_answers.specs.declared.answer.Refused.{Refused as RefusedNumbers}
use Rattle.call_answers.specs.declared.answer.Answer.TheVariants.{Written, Read, Refused}
use Rattle.call_dispatch.specs.Call.{CallInputs}

abbrev pub Unknown : CallInputs → Type 0
Unknown i = (i.function ≡ 0xD042 → ⊥) ⊎ ((3 < i.sub) ⊎ ((i.sub ≡ 2) × (i.task ≡ 1 → ⊥) × (i.task ≡ 2 → ⊥)))

pub record Same (i : CallInputs) (r : Reply) (store destination : List ℕ) : Type 0 where
  pub store_same : store ≡ i.store
  pub destination_same : destination ≡ i.destination
  pub loading_same : r.loading ≡ i.loading

-- r is the reply, store and destination what they are after the call
pub record Demand1 (i : CallInputs) (r : Reply) (store destination : List ℕ) : Type 0 where
  -- the answer has its codes: carry is set exactly if AH is not 0, and AH is 0 exactly if the call was done
  pub codes : Coded r.answer
  -- an unknown function, sub-function or control task answers NOT_IMPLEMENTED and does nothing else
  pub unimplemented : Unknown i → (ah_of r.answer ≡ not_implemented) × Same i r store destination
  -- a refused call changes no byte of the store or the destination, and not the loading state
  pub refused : (a : RefusedNumbers) → r.answer ≡ Refused a → Same i r store destination
  -- nothing but control's task 1 changes the loading state
  pub state : (r.loading ≡ i.loading) ⊎ ((i.function ≡ 0xD042) × (i.sub ≡ 2) × (i.task ≡ 1))
  -- nothing turns loading off
  pub stays_on : i.loading ≡ true → r.loading ≡ true
  -- only an accepted write changes the store
  pub wrote : (store ≡ i.store) ⊎ ((a : WrittenNumbers) × (r.answer ≡ Written a))
  -- only an accepted read changes the destination
  pub copied : (destination ≡ i.destination) ⊎ ((a : ReadNumbers) × (r.answer ≡ Read a))
