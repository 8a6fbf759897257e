-- Bits of a number, and a set of numbers as the bits of one.
--   bit                      bit k of a number, as a Bool
--   bits_below               the number whose bit k is set exactly if k is below n and passes the test
--   bit_mod, bit_behind      bits below n are those of the rest by 2 ^ n; a number below 2 ^ n has none from n on
--   bits_small               it is below 2 ^ n
--   bits_bit, bits_behind    its bits below n, and from n on
--   bits_only                a number below 2 ^ n with these bits is it
--   bit-or                   bit k of the `or`
--   span_bits                the bits of `size` numbers from `start` on, out of 32 ones and two shifts
--   or_none, xor_none        an `or` is 0 exactly if both are; an `exclusive or` is 0 exactly if both are the same
use Prim.Native.Nat.{ℕ, zero, suc, ◌+◌, ◌*◌, ◌-◌, ◌%◌, ◌/◌, ◌^◌, ◌<◌, ◌≤◌, max}
use Rattle.std.specs.Prelude.{◌≡◌, refl, Bool, ◌&&◌, ◌||◌, leb, ltb}
use Rattle.std.proofs.Math.Path.{sym, ap}
use Rattle.std.proofs.Common.{◌∙◌, true≢false, not-suc-le-zero, eq-or-lt_of_le, le_of_suc-le-suc, pow-suc, mod-lt, one-add, pow_pos, pow_mono, shr-shr, eqb-true, ne_eqb, le-leb, ltb-true, ltb-false}
use Rattle.std.proofs.Math.Bool.{true, false, cond}
use Rattle.std.proofs.Math.Logic.{⊎_elim}
use Rattle.std.proofs.Math.Nat.{div-eq_of_lt, mul-mod_left}
use native.Mathlib.Omega.{arith}
use Rattle.std.proofs.Math.Dec.{eqb}
use Rattle.std.proofs.Math.Pow.{split, high, low, field, mod-mod-pow, shr_lt}
use Rattle.std.proofs.lemmas.Nat.{shl-shr, or_shr, and_le_l, and_le_r}
use Rattle.std.specs.Int.Bits.{bit_or, bit_xor, or_step, or_add_and, xor_add_and}
use Rattle.std.proofs.lemmas.Bool.{lt-leb}
use Rattle.laws.specs.Orders.{le_or_lt}
use Rattle.laws.specs.Below.{all_below, all_at}
use Rattle.laws.specs.Span.{spans}

unfoldable pub bit : ℕ → ℕ → Bool
bit x k = eqb (x / 2 ^ k % 2) 1

unfoldable pub bits_below : ℕ → (ℕ → Bool) → ℕ
bits_below zero p = 0
bits_below (suc n) p = cond (p n) 1 0 * 2 ^ n + bits_below n p

-- bit k of a number is settled by its rest by 2 ^ (1 + k)
bit_rest : (x k : ℕ) → x % 2 ^ (1 + k) / 2 ^ k ≡ x / 2 ^ k % 2
bit_rest x k = field x 1 k

pub bit_mod : (x n k : ℕ) → k < n → bit (x % 2 ^ n) k ≡ bit x k
unfolding bit
bit_mod x n k l =
    let e : n - (1 + k) + (1 + k) ≡ n = omega arith in
    let q : x % 2 ^ n % 2 ^ (1 + k) ≡ x % 2 ^ (1 + k) = rw e at (mod-mod-pow x (n - (1 + k)) (1 + k)) in
    ap (λ (y : ℕ). eqb y 1) (sym (bit_rest (x % 2 ^ n) k) ∙ ap (λ (y : ℕ). y / 2 ^ k) q ∙ bit_rest x k)

pub bit_behind : (x n k : ℕ) → x < 2 ^ n → n ≤ k → bit x k ≡ false
unfolding bit
bit_behind x n k s l =
    let m : 2 ^ n ≤ 2 ^ k = pow_mono l in
    let z : x / 2 ^ k ≡ 0 = div-eq_of_lt (omega arith) in
    ne_eqb (x / 2 ^ k % 2) 1 (λ e. omega (arith, z))

digit : (t : Bool) → cond t 1 0 < 2
digit true = omega arith
digit false = omega arith

digit_is : (t : Bool) → eqb (cond t 1 0 % 2) 1 ≡ t
digit_is true = refl
digit_is false = refl

module _ (p : ℕ → Bool) where
  pub bits_small : (n : ℕ) → bits_below n p < 2 ^ n
  unfolding bits_below
  bits_small zero = omega arith
  bits_small (suc n) = rw (pow-suc 2 n) (go (p n) (bits_small n))
    where
      go : (t : Bool) → bits_below n p < 2 ^ n → cond t 1 0 * 2 ^ n + bits_below n p < 2 ^ n * 2
      go true l = omega arith
      go false l = omega arith

  bits_top : (n : ℕ) → bit (cond (p n) 1 0 * 2 ^ n + bits_below n p) n ≡ p n
  unfolding bit
  bits_top n = ap (λ (y : ℕ). eqb (y % 2) 1) (high (cond (p n) 1 0) n (bits_small n)) ∙ digit_is (p n)

  bits_rest : (n k : ℕ) → k < n → bit (cond (p n) 1 0 * 2 ^ n + bits_below n p) k ≡ bit (bits_below n p) k
  bits_rest n k l = sym (bit_mod (cond (p n) 1 0 * 2 ^ n + bits_below n p) n k l) ∙ ap (λ (y : ℕ). bit y k) (low (cond (p n) 1 0) n (bits_small n))

  pub bits_bit : (n k : ℕ) → k < n → bit (bits_below n p) k ≡ p k
  unfolding bits_below
  bits_bit zero k l = absurd (not-suc-le-zero l)
  bits_bit (suc n) k l =
      ⊎_elim (λ (q : k ≡ n). rw q (bits_top n)) (λ (m : k < n). bits_rest n k m ∙ bits_bit n k m) (eq-or-lt_of_le (le_of_suc-le-suc l))

  pub bits_behind : (n k : ℕ) → n ≤ k → bit (bits_below n p) k ≡ false
  bits_behind n k l = bit_behind (bits_below n p) n k (bits_small n) l

  -- the uppermost digit
  top_is : (y : ℕ) (t : Bool) → y < 2 → eqb (y % 2) 1 ≡ t → y ≡ cond t 1 0
  top_is y true l e = let q : y % 2 ≡ 1 = eqb-true (y % 2) 1 e in omega (arith, q)
  top_is zero false l e = refl
  top_is (suc zero) false l e = absurd (true≢false e)
  top_is (suc (suc y)) false l e = absurd (let v : ⊥ = omega arith in v)

  pub bits_only : (n x : ℕ) → x < 2 ^ n → ((k : ℕ) → k < n → bit x k ≡ p k) → x ≡ bits_below n p
  unfolding bits_below bit
  bits_only zero x l h = omega arith
  bits_only (suc n) x l h =
      let y : x / 2 ^ n < 2 = shr_lt 1 n (rw (one-add n) l) in
      let t : x / 2 ^ n ≡ cond (p n) 1 0 = top_is (x / 2 ^ n) (p n) y (h n (omega arith)) in
      let r : x % 2 ^ n ≡ bits_below n p = bits_only n (x % 2 ^ n) (mod-lt x (pow_pos n)) (λ k m. bit_mod x n k m ∙ h k (omega arith)) in
      sym (split x n) ∙ rw (t, r)

pub bits_cong : (p q : ℕ → Bool) (n : ℕ) → ((k : ℕ) → k < n → p k ≡ q k) → bits_below n p ≡ bits_below n q
bits_cong p q n h = bits_only q n (bits_below n p) (bits_small p n) (λ k l. bits_bit p n k l ∙ h k l)

-- two digits
either : (u v : ℕ) → u < 2 → v < 2 → eqb (max u v) 1 ≡ eqb u 1 || eqb v 1
either zero zero hu hv = refl
either zero (suc zero) hu hv = refl
either (suc zero) zero hu hv = refl
either (suc zero) (suc zero) hu hv = refl
either (suc (suc u)) v hu hv = absurd (let w : ⊥ = omega arith in w)
either zero (suc (suc v)) hu hv = absurd (let w : ⊥ = omega arith in w)
either (suc zero) (suc (suc v)) hu hv = absurd (let w : ⊥ = omega arith in w)

pub bit-or : (a b k : ℕ) → bit (bit_or a b) k ≡ bit a k || bit b k
unfolding bit
bit-or a b k =
    let e : bit_or a b / 2 ^ k % 2 ≡ max (a / 2 ^ k % 2) (b / 2 ^ k % 2) = rw or_shr (omega (arith, or_step (a / 2 ^ k) (b / 2 ^ k))) in
    rw e (either (a / 2 ^ k % 2) (b / 2 ^ k % 2) (omega arith) (omega arith))

-- the bits of a number that is shifted left
module _ (y start k : ℕ) where
  left_below : k < start → bit (y * 2 ^ start) k ≡ false
  unfolding bit
  left_below l =
      sym (bit_mod (y * 2 ^ start) start k l) ∙ ap (λ (z : ℕ). bit z k) (mul-mod_left y (2 ^ start)) ∙ bit_behind 0 0 k (omega arith) (omega arith)

  left_from : start ≤ k → bit (y * 2 ^ start) k ≡ bit y (k - start)
  unfolding bit
  left_from l =
      let e : start + (k - start) ≡ k = omega arith in
      let q : y * 2 ^ start / 2 ^ start / 2 ^ (k - start) ≡ y * 2 ^ start / 2 ^ k = rw e at (shr-shr (y * 2 ^ start) start (k - start)) in
      ap (λ (z : ℕ). eqb (z % 2) 1) (sym q ∙ ap (λ (z : ℕ). z / 2 ^ (k - start)) (shl-shr y start))

-- and of one that is shifted right
right_bit : (x j k : ℕ) → bit (x / 2 ^ j) k ≡ bit x (j + k)
unfolding bit
right_bit x j k = ap (λ (z : ℕ). eqb (z % 2) 1) (shr-shr x j k)

all_ones : all_below 32 (bit 4294967295) ≡ true
unfolding all_below bit
all_ones = refl

pub span_bits : (start size k : ℕ) → 1 ≤ size → start + size ≤ 32 → k < 32
    → bit (4294967295 / 2 ^ (32 - size) * 2 ^ start % 2 ^ 32) k ≡ spans start size k
unfolding spans
span_bits start size k some few below =
    bit_mod (4294967295 / 2 ^ (32 - size) * 2 ^ start) 32 k below
    ∙ ⊎_elim
    (λ (l : start ≤ k). left_from (4294967295 / 2 ^ (32 - size)) start k l ∙ inside l (ltb k (start + size)) refl)
    (λ (l : k < start). left_below (4294967295 / 2 ^ (32 - size)) start k l ∙ rw (lt-leb start k l))
    (le_or_lt start k)
  where
    inside : start ≤ k → (t : Bool) → ltb k (start + size) ≡ t → bit (4294967295 / 2 ^ (32 - size)) (k - start) ≡ leb start k && t
    inside l true q =
        let m : k - start + (32 - size) < 32 = omega (arith, ltb-true k (start + size) q) in
        right_bit 4294967295 (32 - size) (k - start) ∙ all_at (bit 4294967295) 32 (32 - size + (k - start)) all_ones (omega arith) ∙ rw (le-leb start k l)
    inside l false q =
        let m : 32 ≤ k - start + (32 - size) = omega (arith, ltb-false k (start + size) q) in
        right_bit 4294967295 (32 - size) (k - start) ∙ bit_behind 4294967295 32 (32 - size + (k - start)) (omega arith) (omega arith) ∙ rw (le-leb start k l)

pub or_none : (a b : ℕ) → bit_or a b ≡ 0 → (a ≡ 0) × (b ≡ 0)
or_none a b e = (omega (arith, or_add_and a b, and_le_l a b, and_le_r a b), omega (arith, or_add_and a b, and_le_l a b, and_le_r a b))

pub xor_none : (a b : ℕ) → bit_xor a b ≡ 0 → a ≡ b
xor_none a b e = omega (arith, xor_add_and a b, and_le_l a b, and_le_r a b)
