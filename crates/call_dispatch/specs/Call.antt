-- "Function and sub-function are judged first" (document 01, "The calls"): the answer, the loading state, and each byte of store and
-- destination, for every input.
--   CallInputs         what a call is given; inputs_of: from the call's arguments
--   replied            an answer, with the loading state as it was
--   unknown            NOT_IMPLEMENTED, and the loading state as it was
--   call_reply         the answer and the loading state
--   call_store         the store afterwards: only a write changes it
--   call_destination   the destination afterwards: only a read changes it
use Rattle.std.specs.Prelude.{ℕ, Bool, cond, ◌&&◌, List, length, eqb}
use Rattle.laws.specs.Unless.{unless}
use Rattle.processor_list.specs.Processors.{ProcessorList, list_of}
use Rattle.call_answers.specs.Codes.{not_implemented, none}
use Rattle.call_answers.specs.Answers.{refusal}
use Rattle.call_reads.specs.Presence.{presence_answer}
use Rattle.call_control.specs.Control.{control_reply}
use Rattle.call_reads.specs.Read.{read_answer, read_bytes}
use Rattle.call_answers.specs.declared.answer.Answer.{Answer}
use Rattle.call_answers.specs.declared.answer.Reply.{Reply}
use Rattle.write_call.specs.Write.{write_answer, write_bytes}

pub record CallInputs : Type 0 where
  pub function : ℕ
  pub sub : ℕ
  pub task : ℕ
  pub block : ℕ
  pub loading : Bool
  pub store : List ℕ
  pub list : ProcessorList
  pub cand : List ℕ
  pub back : ℕ
  pub destination : List ℕ

-- in the order of the call's arguments
abbrev pub inputs_of : ℕ → ℕ → ℕ → ℕ → Bool → List ℕ → List ℕ → List ℕ → List ℕ → ℕ → List ℕ → CallInputs
inputs_of function sub task block loading store signatures platforms cand back destination =
    record {
      function = function;
      sub = sub;
      task = task;
      block = block;
      loading = loading;
      store = store;
      list = list_of signatures platforms;
      cand = cand;
      back = back;
      destination = destination;
    }

-- an answer that leaves the loading state as it was
abbrev pub replied : Bool → Answer → Reply
replied loading a = record { answer = a; loading = loading }

unfoldable pub unknown : Bool → Reply
unknown loading = replied loading (refusal not_implemented none)

unfoldable pub call_reply : CallInputs → Reply
call_reply i =
    unless (eqb i.function 0xD042) (unknown i.loading)
    (cond (eqb i.sub 0) (replied i.loading (presence_answer i.store))
    (cond (eqb i.sub 1) (replied i.loading (write_answer i.store i.list i.cand i.back))
    (cond (eqb i.sub 2) (control_reply i.task i.loading)
    (cond (eqb i.sub 3) (replied i.loading (read_answer i.store i.block (length i.destination)))
    (unknown i.loading)))))

unfoldable pub call_store : CallInputs → List ℕ
call_store i = unless (eqb i.function 0xD042 && eqb i.sub 1) i.store (write_bytes i.store i.list i.cand i.back)

unfoldable pub call_destination : CallInputs → List ℕ
call_destination i = unless (eqb i.function 0xD042 && eqb i.sub 3) i.destination (read_bytes i.store i.block i.destination)
