-- "All numbers are little-endian, 32 bits, unsigned" (document 01, "The update").
--   little        the number of four bytes, lowest first
--   dword         the number at byte i
use Rattle.std.specs.Prelude.{ℕ, ◌+◌, ◌*◌, List, slice_index}

abbrev pub little : ℕ → ℕ → ℕ → ℕ → ℕ
little a b c d = a + 256 * b + 65536 * c + 16777216 * d

-- the 32-bit number at byte i; a byte behind the end counts as 0
unfoldable pub dword : List ℕ → ℕ → ℕ
dword s i = little (slice_index s i) (slice_index s (i + 1)) (slice_index s (i + 2)) (slice_index s (i + 3))
