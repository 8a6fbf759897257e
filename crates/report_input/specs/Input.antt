-- Input that arrives in pieces, gathered in a buffer.
--   fitting       how many of the n bytes of a piece a buffer of `size` bytes takes that holds `have`
--   count_with    how many bytes it holds with the piece
--   bytes_with    the buffer then
--   Gathered      the buffer holds the input so far, or as much of it as it has room for
use Rattle.std.specs.Prelude.{ℕ, ◌+◌, ◌-◌, min, ◌≡◌, List, length, take}
use Rattle.bytes_copy.specs.Paste.{put_at}

unfoldable pub fitting : ℕ → ℕ → ℕ → ℕ
fitting size have n = min n (size - have)

abbrev pub count_with : List ℕ → ℕ → List ℕ → ℕ
count_with buffer have piece = have + fitting (length buffer) have (length piece)

abbrev pub bytes_with : List ℕ → ℕ → List ℕ → List ℕ
bytes_with buffer have piece = put_at buffer have piece (fitting (length buffer) have (length piece))

-- `all` is the input so far
pub record Gathered (buffer : List ℕ) (have : ℕ) (all : List ℕ) : Type 0 where
  pub count : have ≡ min (length buffer) (length all)
  pub bytes : take have buffer ≡ take (length buffer) all
