-- "Sums are taken modulo 2^32 and wrap on purpose" (document 01, "The update").
--   dwords_of     the dwords of a list of bytes, in order
--   total         the sum of a list of numbers
--   dword_sum     the sum of the dwords of a list of bytes, modulo 2^32
use Rattle.std.specs.Prelude.{ℕ, ◌+◌, ◌%◌, ◌^◌, List, [], ◌∷◌}
use Rattle.bytes_dwords.specs.Dword.{little}

-- the dwords of a list of bytes; up to three bytes at its end that are no whole dword don't count
unfoldable pub dwords_of : List ℕ → List ℕ
dwords_of [] = []
dwords_of (a ∷ []) = []
dwords_of (a ∷ b ∷ []) = []
dwords_of (a ∷ b ∷ c ∷ []) = []
dwords_of (a ∷ b ∷ c ∷ d ∷ s) = little a b c d ∷ dwords_of s

unfoldable pub total : List ℕ → ℕ
total [] = 0
total (x ∷ l) = x + total l

unfoldable pub dword_sum : List ℕ → ℕ
dword_sum s = total (dwords_of s) % 2 ^ 32
