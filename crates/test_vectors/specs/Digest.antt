-- The digest of bytes or other numbers: 1, then for each 31 times what was, plus the number, modulo 2^32 - 5.
--   modulus         2^32 - 5, a prime
--   digest_step     one number more
--   digest_to       the digest of the first n numbers of f
--   byte_at         byte i
--   digest          the digest of bytes
--   index_digest    of the 128 words of an index
use Rattle.std.specs.Prelude.{ℕ, zero, suc, ◌+◌, ◌*◌, ◌%◌, List, length, slice_index}
use Rattle.store_index.specs.IndexColumns.{word_at}

abbrev pub modulus : ℕ
modulus = 4294967291

unfoldable pub digest_step : ℕ → ℕ → ℕ
digest_step h b = (h * 31 + b) % modulus

unfoldable pub digest_to : (ℕ → ℕ) → ℕ → ℕ
digest_to f zero = 1
digest_to f (suc n) = digest_step (digest_to f n) (f n)

unfoldable pub byte_at : List ℕ → ℕ → ℕ
byte_at s i = slice_index s i

unfoldable pub digest : List ℕ → ℕ
digest s = digest_to (byte_at s) (length s)

unfoldable pub index_digest : List (List ℕ) → ℕ
index_digest index = digest_to (word_at index) 128
