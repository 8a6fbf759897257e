-- Bytes put at a place of a buffer, if it has room for them.
--   put         the first n bytes of p at `at`, where both are long enough and n is at most 32,768; else nothing changes
--   bytes_of    the four bytes of a number
--   put_dword   one number, little-endian
--   fill        n times the same byte
--   little_endian    they are the library's
--   putting     the ways of the code, as `search` takes them
use Rattle.std.specs.Prelude.{◌≡◌, ℕ, ◌+◌, ◌/◌, ◌%◌, ◌^◌, ◌<◌, ◌≤◌, cond, ◌&&◌, List, [], ◌∷◌, length, replicate, nat_le}
use Rattle.std.proofs.Math.Bool.{and-false}
use Rattle.std.proofs.Common.{arith}
use borrow.Author.Tests.{le-leb, lt-leb}
use Rattle.std.specs.Int.{w32, to_le_bytes}
use Rattle.bytes_copy.specs.Paste.{put_at}

unfoldable pub put : List ℕ → ℕ → List ℕ → ℕ → List ℕ
put s at p n = cond (nat_le n 32768 && nat_le n (length p) && nat_le (at + n) (length s)) (put_at s at p n) s

abbrev pub bytes_of : ℕ → List ℕ
bytes_of x = x % 256 ∷ x / 256 % 256 ∷ x / 65536 % 256 ∷ x / 16777216 ∷ []

abbrev pub put_dword : List ℕ → ℕ → ℕ → List ℕ
put_dword s at x = put s at (bytes_of x) 4

unfoldable pub fill : List ℕ → ℕ → ℕ → ℕ → List ℕ
fill s from n byte = put s from (replicate 32768 byte) n

-- the library's bytes of a number
pub little_endian : (x : ℕ) → x < 2 ^ 32 → to_le_bytes w32 x ≡ bytes_of x
little_endian x l = let e : x / 16777216 % 256 ≡ x / 16777216 = omega arith in rw e

module _ (s : List ℕ) (at : ℕ) (p : List ℕ) (n : ℕ) where
  pub put_done : (r : List ℕ) → n ≤ 32768 → n ≤ length p → at + n ≤ length s → r ≡ put_at s at p n → r ≡ put s at p n
  unfolding put
  put_done r a b c e = rw (le-leb n 32768 a, le-leb n (length p) b, le-leb (at + n) (length s) c) e

  pub put_long : 32768 < n → s ≡ put s at p n
  unfolding put
  put_long l = rw (lt-leb n 32768 l)

  pub put_more : length p < n → s ≡ put s at p n
  unfolding put
  put_more l = rw (lt-leb n (length p) l, and-false (nat_le n 32768))

  pub put_short : length s < at + n → s ≡ put s at p n
  unfolding put
  put_short l = rw (lt-leb (at + n) (length s) l, and-false (nat_le n 32768 && nat_le n (length p)))

  pub put_outside : length s < at → s ≡ put s at p n
  put_outside l = put_short (omega arith)

pub ruleset putting = (put_done, put_long, put_more, put_short, put_outside)
