-- What the write is meant to do.
--   answer_of   the answer of a write that was done or refused
--   Meant       the whole contract of the write
use Rattle.std.specs.Prelude.{ℕ, ◌≡◌, List, Result, Ok, Err}
use Rattle.processor_list.specs.Processors.{ProcessorList}
use Rattle.call_answers.specs.Refusals.{refused}
use Rattle.call_answers.specs.declared.answer.Answer.{Answer}
use Rattle.call_answers.specs.declared.answer.Answer.TheVariants.{Written}
use Rattle.call_answers.specs.declared.answer.Written.{Written as WrittenNumbers}
use Rattle.call_answers.specs.declared.refusal.Refusal.{Refusal}
use Rattle.write_call.specs.Write.{write_answer, write_bytes}
use Rattle.write_call.specs.Demand.{Passes, Demand3}

abbrev pub answer_of : Result WrittenNumbers Refusal → Answer
answer_of (Ok w) = Written w
answer_of (Err r) = refused r

-- what the write answers and leaves, with demand 3
abbrev pub Meant : List ℕ → ProcessorList → List ℕ → ℕ → Answer → List ℕ → Type 0
Meant old list cand back r new =
    (r ≡ write_answer old list cand back)
    × ((new ≡ write_bytes old list cand back) × (Passes old list cand → Demand3 old list cand back r new))
