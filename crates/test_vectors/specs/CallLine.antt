-- What a step with a call writes and leaves, by the definitions that the calls are proved to meet.
--   Buffers, buffers    what a call is lent: a store, a list of processors, a candidate and a destination
--   parts               the first bytes and processors of each, as many as the steps have set
--   given               what a call is given
--   reply_to            the answer and the loading state
--   store_after         the store afterwards
--   destination_after   the destination afterwards
--   call_line           the line: the result, the 16 answer words, and the digests of store and destination afterwards
--   load_line           the line of a load choice, which changes no byte
use Rattle.std.specs.Prelude.{ℕ, List, take}
use Rattle.call_answers.specs.declared.answer.Reply.{Reply}
use Rattle.call_dispatch.specs.Call.{CallInputs, inputs_of, call_reply, call_store, call_destination}
use Rattle.load_choice.specs.Load.{load_choice}
use Rattle.board_call_words.specs.Words.{ax_of, call_words}
use Rattle.board_load_words.specs.LoadWords.{load_ax, load_words}
use Rattle.test_vectors.specs.declared.state.State.{State}
use Rattle.test_vectors.specs.declared.calls.CallOperands.{CallOperands}
use Rattle.test_vectors.specs.declared.calls.LoadOperands.{LoadOperands}
use Rattle.test_vectors.specs.declared.lines.Line.{Line}
use Rattle.test_vectors.specs.Digest.{digest}

pub record Buffers : Type 0 where
  pub store : List ℕ
  pub signatures : List ℕ
  pub platforms : List ℕ
  pub candidate : List ℕ
  pub destination : List ℕ

abbrev pub buffers : List ℕ → List ℕ → List ℕ → List ℕ → List ℕ → Buffers
buffers store signatures platforms candidate destination =
    record { store = store; signatures = signatures; platforms = platforms; candidate = candidate; destination = destination }

abbrev pub parts : State → Buffers → Buffers
parts s b =
    buffers (take s.store b.store) (take s.signatures b.signatures) (take s.platforms b.platforms)
    (take s.candidate b.candidate) (take s.destination b.destination)

-- what the call is given
abbrev pub given : CallOperands → Buffers → CallInputs
given c b =
    inputs_of c.function c.sub_function c.task c.block c.loading b.store b.signatures b.platforms
    b.candidate c.read_back b.destination

unfoldable pub reply_to : CallOperands → Buffers → Reply
reply_to c b = call_reply (given c b)

unfoldable pub store_after : CallOperands → Buffers → List ℕ
store_after c b = call_store (given c b)

unfoldable pub destination_after : CallOperands → Buffers → List ℕ
destination_after c b = call_destination (given c b)

unfoldable pub call_line : CallOperands → Buffers → Line
call_line c b = record {
  result = ax_of (reply_to c b).answer;
  answer = call_words (reply_to c b);
  store = digest (store_after c b);
  destination = digest (destination_after c b);
}

unfoldable pub load_line : LoadOperands → List ℕ → List ℕ → Line
load_line l store destination = record {
  result = load_ax (load_choice l.loading store l.signature l.platform);
  answer = load_words l.loading store (load_choice l.loading store l.signature l.platform);
  store = digest store;
  destination = digest destination;
}
