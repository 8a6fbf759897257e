-- Bytes that are FFh.
--   and_none, and_more, and_end     they are exactly if the `and` of their dwords is FFFFFFFFh: a loop's start, its turn, its end
--   unused_no                       the first byte tells that a block isn't unused
--   filled_local                    bytes that are the same are filled alike
use Rattle.std.specs.Prelude.{ℕ, ◌+◌, ◌*◌, ◌/◌, ◌%◌, ◌<◌, ◌≤◌, ◌≡◌, Bool, true, false, List, length, get_or, leb, eqb}
use Rattle.std.proofs.Common.{sym, ◌∙◌}
use Rattle.std.proofs.Math.Bool.{and-false}
use native.Mathlib.Omega.{arith}
use Rattle.std.specs.Int.Bits.{bit_and, and_self}
use Rattle.std.proofs.lemmas.Nat.{and_le_l, and_le_r}
use borrow.Author.Tests.{eq-eqb, eqb-true}
use Rattle.laws.specs.Bools.{bool_same}
use Rattle.laws.specs.Below.{all_below, all_none, all_more, all_at, all_true, all_stop, all_cong}
use Rattle.laws.specs.Same.{Same}
use Rattle.bytes_dwords.specs.Dword.{dword}
use Rattle.bytes_dwords.proofs.DwordLaws.{dword_most, dword_bytes, dword_made}
use Rattle.store_blocks.specs.Blocks.{is_ff, filled, unused}

-- byte m
module _ (s : List ℕ) (i j m : ℕ) (e : m ≡ i + j) where
  byte_ff : get_or s m 0 ≡ 255 → is_ff s i j ≡ true
  unfolding is_ff
  byte_ff h = eq-eqb (get_or s (i + j) 0) 255 (rw (← e) h)

  ff_byte : is_ff s i j ≡ true → get_or s m 0 ≡ 255
  unfolding is_ff
  ff_byte h = rw e (eqb-true (get_or s (i + j) 0) 255 h)

-- four more bytes, and the dword that they are
module _ (s : List ℕ) (bytes : (j : ℕ) → get_or s j 0 < 256) (i k : ℕ) where
  dword_more : all_below (4 * k) (is_ff s i) ≡ true → dword s (i + 4 * k) ≡ 4294967295 → all_below (4 * (k + 1)) (is_ff s i) ≡ true
  dword_more h e =
      let w = dword_bytes s bytes (i + 4 * k) e in
      let a = all_more (is_ff s i) (4 * k) h (byte_ff s i (4 * k) (i + 4 * k) (omega arith) w.0) in
      let b = all_more (is_ff s i) (4 * k + 1) a (byte_ff s i (4 * k + 1) (i + 4 * k + 1) (omega arith) w.1) in
      let c = all_more (is_ff s i) (4 * k + 1 + 1) b (byte_ff s i (4 * k + 1 + 1) (i + 4 * k + 2) (omega arith) w.2) in
      let d = all_more (is_ff s i) (4 * k + 1 + 1 + 1) c (byte_ff s i (4 * k + 1 + 1 + 1) (i + 4 * k + 3) (omega arith) w.3) in
      let q : 4 * (k + 1) ≡ 4 * k + 1 + 1 + 1 + 1 = omega arith in
      rw q d

  module _ (h : all_below (4 * (k + 1)) (is_ff s i) ≡ true) where
    before_ff : all_below (4 * k) (is_ff s i) ≡ true
    before_ff = all_true (is_ff s i) (4 * k) (λ j l. all_at (is_ff s i) (4 * (k + 1)) j h (omega arith))

    byte_of : (j m : ℕ) → m ≡ i + j → j < 4 * (k + 1) → get_or s m 0 ≡ 255
    byte_of j m e l = ff_byte s i j m e (all_at (is_ff s i) (4 * (k + 1)) j h l)

    dword_ff : dword s (i + 4 * k) ≡ 4294967295
    dword_ff =
        dword_made s bytes (i + 4 * k) (byte_of (4 * k) (i + 4 * k) (omega arith) (omega arith))
        (byte_of (4 * k + 1) (i + 4 * k + 1) (omega arith) (omega arith))
        (byte_of (4 * k + 2) (i + 4 * k + 2) (omega arith) (omega arith))
        (byte_of (4 * k + 3) (i + 4 * k + 3) (omega arith) (omega arith))

-- a loop that takes the `and` of the dwords from i on: its start, its turn, where x is the dword read, and its end
module _ (s : List ℕ) (i : ℕ) where
  pub and_none : eqb 4294967295 4294967295 ≡ all_below (4 * 0) (is_ff s i)
  and_none = sym (all_none (is_ff s i))

  pub and_more : ((j : ℕ) → get_or s j 0 < 256) → (k all x : ℕ) → all ≤ 4294967295
      → eqb all 4294967295 ≡ all_below (4 * k) (is_ff s i) → x ≡ dword s (i + 4 * k)
      → eqb (bit_and all x) 4294967295 ≡ all_below (4 * (k + 1)) (is_ff s i)
  and_more bytes k all x l e q = bool_same _ _ forth back
    where
      forth : eqb (bit_and all x) 4294967295 ≡ true → all_below (4 * (k + 1)) (is_ff s i) ≡ true
      forth h =
          let f = eqb-true (bit_and all x) 4294967295 h in
          let g : all ≡ 4294967295 = omega (arith, and_le_l all x) in
          dword_more s bytes i k (sym e ∙ eq-eqb all 4294967295 g) (omega (arith, and_le_r all x, dword_most s bytes (i + 4 * k)))

      back : all_below (4 * (k + 1)) (is_ff s i) ≡ true → eqb (bit_and all x) 4294967295 ≡ true
      back h =
          let f = eqb-true all 4294967295 (e ∙ before_ff s bytes i k h) in
          let g : x ≡ all = omega (arith, dword_ff s bytes i k h) in
          eq-eqb (bit_and all x) 4294967295 (rw g (and_self all ∙ f))

  pub and_end : (k n all : ℕ) → k ≤ n / 4 → n / 4 ≤ k → n % 4 ≡ 0
      → eqb all 4294967295 ≡ all_below (4 * k) (is_ff s i) → eqb all 4294967295 ≡ filled s i n
  unfolding filled
  and_end k n all l m z e = let q : 4 * k ≡ n = omega arith in rw q at e

-- the first byte tells
pub unused_no : (s : List ℕ) (r : Bool) → r ≡ is_ff s 0 0 → r ≡ false → false ≡ unused s
unfolding unused filled
unused_no s r e h = rw (all_stop (is_ff s 0) 2048 0 (omega arith) (sym e ∙ h)) (sym (and-false (leb 2048 (length s))))

pub filled_local : (s r : List ℕ) (m i n : ℕ) → Same s r m → i + n ≤ m → filled s i n ≡ filled r i n
unfolding filled is_ff
filled_local s r m i n h l = all_cong (is_ff s i) (is_ff r i) n (λ k j. rw (h (i + k) (omega arith)))
