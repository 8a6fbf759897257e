-- What a step with a call through the index writes and leaves, by the definitions that the calls are proved to meet.
--   read_answer        the answer of a read
--   read_destination   the destination afterwards
--   read_line          the line: the result, the 16 answer words, and the digests of store and destination afterwards
--   choice_by          a load choice
--   load_indexed_line  its line, which changes no byte
use Rattle.std.specs.Prelude.{ℕ, false, List, length}
use Rattle.call_answers.specs.declared.answer.Answer.{Answer}
use Rattle.call_answers.specs.Choice.{LoadChoice}
use Rattle.store_index.specs.IndexColumns.{index_in}
use Rattle.call_indexed.specs.IndexedRead.{indexed_answer, indexed_bytes}
use Rattle.load_indexed.specs.IndexedLoad.{indexed_choice}
use Rattle.board_call_words.specs.Words.{ax_of, answer_words}
use Rattle.board_load_words.specs.LoadWords.{load_ax, load_words}
use Rattle.test_vectors.specs.declared.calls.LoadOperands.{LoadOperands}
use Rattle.test_vectors.specs.declared.indexed.ReadOperands.{ReadOperands}
use Rattle.test_vectors.specs.declared.lines.Line.{Line}
use Rattle.test_vectors.specs.Digest.{digest}

unfoldable pub read_answer : ReadOperands → List (List ℕ) → List ℕ → List ℕ → Answer
read_answer c index store destination = indexed_answer store (index_in index) c.block (length destination)

unfoldable pub read_destination : ReadOperands → List (List ℕ) → List ℕ → List ℕ → List ℕ
read_destination c index store destination = indexed_bytes store (index_in index) c.block destination

unfoldable pub read_line : ReadOperands → List (List ℕ) → List ℕ → List ℕ → Line
read_line c index store destination = record {
  result = ax_of (read_answer c index store destination);
  answer = answer_words (read_answer c index store destination) false;
  store = digest store;
  destination = digest (read_destination c index store destination);
}

unfoldable pub choice_by : LoadOperands → List (List ℕ) → List ℕ → LoadChoice
choice_by l index store = indexed_choice l.loading store (index_in index) l.signature l.platform

unfoldable pub load_indexed_line : LoadOperands → List (List ℕ) → List ℕ → List ℕ → Line
load_indexed_line l index store destination = record {
  result = load_ax (choice_by l index store);
  answer = load_words l.loading store (choice_by l index store);
  store = digest store;
  destination = digest destination;
}
