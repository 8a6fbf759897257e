-- The low eight bits of a number.
--   both_bit       both of two numbers have it
--   bit_low        below 8, the low byte has the number's bit
--   common_bit     two numbers have a common one among their low eight bits exactly if the low byte of their `and` isn't 0
use Rattle.std.specs.Prelude.{ℕ, zero, suc, ◌+◌, ◌*◌, ◌%◌, ◌/◌, ◌^◌, ◌<◌, min, ◌≡◌, refl, Bool, true, false, not, ◌&&◌, eqb}
use Rattle.std.proofs.Common.{◌∙◌, true≢false, arith}
use Rattle.std.proofs.lemmas.Nat.{mod-pow-add, and_shr}
use Rattle.std.specs.Int.Bits.{bit_and, and_step}
use borrow.Author.Tests.{eqb-true, eqb-false}
use Rattle.laws.specs.Bools.{and_parts, no_true, no_false}
use Rattle.laws.specs.Below.{any_below, any_fails, any_false}
use Rattle.laws.specs.Bits.{bit}

-- both have bit k
unfoldable pub both_bit : ℕ → ℕ → ℕ → Bool
both_bit f g k = bit f k && bit g k

and_bit0 : (x y : ℕ) → bit_and x y % 2 ≡ min (x % 2) (y % 2)
and_bit0 x y = omega (arith, and_step x y)

-- bit k of a & b
and_bit : (a b k : ℕ) → bit_and a b / 2 ^ k % 2 ≡ min (a / 2 ^ k % 2) (b / 2 ^ k % 2)
and_bit a b k = rw and_shr (and_bit0 (a / 2 ^ k) (b / 2 ^ k))

-- what holds of 0 to 7 holds of each number below 8
below8 : (P : ℕ → Type 0) → P 0 → P 1 → P 2 → P 3 → P 4 → P 5 → P 6 → P 7 → (k : ℕ) → k < 8 → P k
below8 P a b c d e f g h zero l = a
below8 P a b c d e f g h (suc zero) l = b
below8 P a b c d e f g h (suc (suc zero)) l = c
below8 P a b c d e f g h (suc (suc (suc zero))) l = d
below8 P a b c d e f g h (suc (suc (suc (suc zero)))) l = e
below8 P a b c d e f g h (suc (suc (suc (suc (suc zero))))) l = f
below8 P a b c d e f g h (suc (suc (suc (suc (suc (suc zero)))))) l = g
below8 P a b c d e f g h (suc (suc (suc (suc (suc (suc (suc zero))))))) l = h
below8 P a b c d e f g h (suc (suc (suc (suc (suc (suc (suc (suc k)))))))) l = absurd (omega arith)

zero_mul_add : (m : ℕ) → 0 * m + 0 ≡ 0
zero_mul_add m = omega arith

low_zero : (x : ℕ) → x % 256 ≡ 0 → (k : ℕ) → k < 8 → x / 2 ^ k % 2 ≡ 0
low_zero x e = below8 (λ k. x / 2 ^ k % 2 ≡ 0) (omega arith) (omega arith) (omega arith) (omega arith) (omega arith) (omega arith) (omega arith) (omega arith)

zero_low : (x : ℕ) → ((k : ℕ) → k < 8 → x / 2 ^ k % 2 ≡ 0) → x % 256 ≡ 0
zero_low x h =
    let b : (n : ℕ) → n < 8 → x % 2 ^ n ≡ 0 → x % 2 ^ (1 + n) ≡ 0 = λ n l e. mod-pow-add x 1 n ∙ rw (h n l, e) (zero_mul_add (2 ^ n)) in
    b 7 (omega arith) (b 6 (omega arith) (b 5 (omega arith) (b 4 (omega arith) (b 3 (omega arith) (b 2 (omega arith) (b 1 (omega arith) (b 0 (omega arith) (omega arith))))))))

-- two bits, not both 1
not_both : (u v : ℕ) → u < 2 → v < 2 → eqb u 1 && eqb v 1 ≡ false → min u v ≡ 0
not_both zero v hu hv e = omega arith
not_both (suc zero) zero hu hv e = omega arith
not_both (suc zero) (suc zero) hu hv e = absurd (true≢false e)
not_both (suc zero) (suc (suc v)) hu hv e = omega arith
not_both (suc (suc u)) v hu hv e = omega arith

-- bit k of a low byte, k below 8, is bit k of the number
pub bit_low : (x k : ℕ) → k < 8 → bit (x % 256) k ≡ bit x k
unfolding bit
bit_low x = below8 (λ k. eqb (x % 256 / 2 ^ k % 2) 1 ≡ eqb (x / 2 ^ k % 2) 1) (low 0 (omega arith)) (low 1 (omega arith)) (low 2 (omega arith)) (low 3 (omega arith)) (low 4 (omega arith)) (low 5 (omega arith)) (low 6 (omega arith)) (low 7 (omega arith))
  where
    low : (k : ℕ) → x % 256 / 2 ^ k % 2 ≡ x / 2 ^ k % 2 → eqb (x % 256 / 2 ^ k % 2) 1 ≡ eqb (x / 2 ^ k % 2) 1
    low k e = rw e

module _ (f g : ℕ) where
  both_and : (k : ℕ) → both_bit f g k ≡ true → bit_and f g / 2 ^ k % 2 ≡ 1
  unfolding both_bit bit
  both_and k e =
      let h = and_parts (eqb (f / 2 ^ k % 2) 1) (eqb (g / 2 ^ k % 2) 1) e in
      let a : f / 2 ^ k % 2 ≡ 1 = eqb-true _ _ h.0 in
      let b : g / 2 ^ k % 2 ≡ 1 = eqb-true _ _ h.1 in
      and_bit f g k ∙ rw (a, b)

  none_and : (k : ℕ) → both_bit f g k ≡ false → bit_and f g / 2 ^ k % 2 ≡ 0
  unfolding both_bit bit
  none_and k e = and_bit f g k ∙ not_both (f / 2 ^ k % 2) (g / 2 ^ k % 2) (omega arith) (omega arith) e

  pub common_bit : any_below 8 (both_bit f g) ≡ not (eqb (bit_and f g % 256) 0)
  common_bit = go (eqb (bit_and f g % 256) 0) refl
    where
      go : (t : Bool) → eqb (bit_and f g % 256) 0 ≡ t → any_below 8 (both_bit f g) ≡ not t
      go true e = any_false _ 8 (λ k l. no_true _ (λ t. let z = low_zero (bit_and f g) (eqb-true _ _ e) k l in let o = both_and k t in omega arith))
      go false e = no_false _ (λ n. eqb-false _ _ e (zero_low _ (λ k l. none_and k (any_fails _ 8 k n l))))
