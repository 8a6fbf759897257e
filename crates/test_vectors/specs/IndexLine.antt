-- What a step that makes an index leaves and writes, by the definitions that the calls are proved to meet. It changes no byte.
--   made_index      the columns of the index of a store
--   carried_index   those of the old index after a write
--   with_word       columns with another word at place i of the 128
--   make_line       the line of a made index: the result, the 16 answer words, the digests of store and destination, and that of the index
--   after_line      the line of a carried one
use Rattle.std.specs.Prelude.{ℕ, ◌/◌, ◌%◌, List, [], slice_index_or, slice_set}
use Rattle.store_directory.specs.Scan.{store_ok}
use Rattle.store_index.specs.Index.{index_of}
use Rattle.store_index.specs.IndexAfter.{index_after}
use Rattle.store_index.specs.IndexColumns.{columns_of, index_in}
use Rattle.call_indexed.specs.IndexCall.{index_codes}
use Rattle.board_index_words.specs.IndexAnswerWords.{codes_words, codes_ax, carried_words}
use Rattle.test_vectors.specs.declared.indexes.AfterOperands.{AfterOperands}
use Rattle.test_vectors.specs.declared.lines.IndexLine.{IndexLine}
use Rattle.test_vectors.specs.Digest.{digest, index_digest}

unfoldable pub made_index : List ℕ → List (List ℕ)
made_index store = columns_of (index_of store)

unfoldable pub carried_index : AfterOperands → List (List ℕ) → List (List ℕ)
carried_index c old = columns_of (index_after (index_in old) c.emptied c.start c.revision c.size)

abbrev pub with_word : List (List ℕ) → ℕ → ℕ → List (List ℕ)
with_word index i n = slice_set index (i / 32) (slice_set (slice_index_or index (i / 32) []) (i % 32) n)

unfoldable pub make_line : List ℕ → List ℕ → IndexLine
make_line store destination = record {
  line = record {
    result = codes_ax (index_codes (store_ok store));
    answer = codes_words (index_codes (store_ok store));
    store = digest store;
    destination = digest destination;
  };
  index = index_digest (made_index store);
}

unfoldable pub after_line : AfterOperands → List (List ℕ) → List ℕ → List ℕ → IndexLine
after_line c old store destination = record {
  line = record { result = 0; answer = carried_words; store = digest store; destination = digest destination };
  index = index_digest (carried_index c old);
}
