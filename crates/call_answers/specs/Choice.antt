-- The answer of the load choice (document 01, "Load choice"): an update, nothing, or a refusal, which is `Err`.
--   LoadChoice   the update, if one covers the processor, or why the choice is refused
--   Nothing      no update
--   Chosen       the update at a first block, with its revision
use Rattle.std.specs.Prelude.{ℕ, Option, Some, None, Result, Ok}
use Rattle.call_answers.specs.declared.choice.Chosen.{Chosen as Update}
use Rattle.call_answers.specs.declared.refusal.Refusal.{Refusal}

abbrev pub LoadChoice : Type 0
LoadChoice = Result (Option Update) Refusal

abbrev pub Nothing : LoadChoice
Nothing = Ok None

abbrev pub Chosen : ℕ → ℕ → LoadChoice
Chosen b r = Ok (Some (record { start = b; revision = r }))
