-- Laws of the sum of dwords.
--   sum_start, sum_end        nothing summed, and nothing left
--   sum_turn                  a loop that adds one dword a turn
--   sum_sixteen, sum_four     a loop that adds sixteen dwords a turn to four sums, and the four as one
--   sum_append                the sum of two parts, the first of whole dwords
use Rattle.std.specs.Prelude.{◌≡◌, ℕ, zero, suc, ◌+◌, ◌*◌, ◌%◌, ◌^◌, ◌<◌, ◌≤◌, List, [], ◌∷◌, ◌++◌, length, drop, refl}
use native.Mathlib.Omega.{arith}
use Rattle.std.proofs.Math.ListN.{length-drop}
use Rattle.std.proofs.Common.{drop-drop}
use Rattle.bytes_dwords.specs.Dword.{dword}
use Rattle.bytes_dwords.proofs.DwordLaws.{dword_drop}
use Rattle.bytes_dwords.specs.Sum.{dwords_of, total, dword_sum}
use Rattle.bytes_dwords.specs.Summed.{summed}

-- one dword off the front, and the end
front : (s : List ℕ) → 4 ≤ length s → total (dwords_of s) ≡ dword s 0 + total (dwords_of (drop 4 s))
unfolding dwords_of total dword
front [] l = absurd (omega arith)
front (a ∷ []) l = absurd (omega arith)
front (a ∷ b ∷ []) l = absurd (omega arith)
front (a ∷ b ∷ c ∷ []) l = absurd (omega arith)
front (a ∷ b ∷ c ∷ d ∷ s) l = refl

none : (s : List ℕ) → length s < 4 → total (dwords_of s) ≡ 0
unfolding dwords_of total
none [] l = refl
none (a ∷ []) l = refl
none (a ∷ b ∷ []) l = refl
none (a ∷ b ∷ c ∷ []) l = refl
none (a ∷ b ∷ c ∷ d ∷ s) l = absurd (omega arith)

module _ (s : List ℕ) where
  pub sum_start : summed s 0 0 ≡ dword_sum s
  unfolding summed dword_sum
  sum_start = omega arith

  pub sum_end : (sum at : ℕ) → length s < at + 4 → sum < 2 ^ 32 → sum ≡ summed s sum at
  unfolding summed dword_sum
  sum_end sum at l b =
      let h = length-drop at s in
      let k = none (drop at s) (omega arith) in
      omega arith

-- a loop that sums s: what it has, with the dwords that are left, is always the same
module _ (s : List ℕ) (all : ℕ) where
  -- the bytes from `at` on: their first dword, and the bytes from `next` on
  front_at : (at next : ℕ) → next ≡ at + 4 → next ≤ length s
      → total (dwords_of (drop at s)) ≡ dword s at + total (dwords_of (drop next s))
  front_at at next e l =
      let h = length-drop at s in
      let k = front (drop at s) (omega arith) in
      let m = dword_drop s at in
      rw (e, ← drop-drop 4 at s) (omega arith)

  -- a dword is added to one of several sums, t in all before and u after
  sum_step : (t u others sum r at next : ℕ) → summed s t at ≡ all → t ≡ others + sum → u ≡ others + r
      → next ≡ at + 4 → next ≤ length s → r ≡ (sum + dword s at) % 2 ^ 32 → summed s u next ≡ all
  unfolding summed dword_sum
  sum_step t u others sum r at next w e f g l h = let k = front_at at next g l in omega arith

  -- two of several sums become one, t in all before and u after
  sum_join : (t u others a b r at : ℕ) → summed s t at ≡ all → t ≡ others + (a + b) → u ≡ others + r
      → r ≡ (a + b) % 2 ^ 32 → summed s u at ≡ all
  unfolding summed
  sum_join t u others a b r at w e f g = omega arith

  pub sum_turn : (sum at next r : ℕ) → summed s sum at ≡ all → next ≡ at + 4 → next ≤ length s
      → r ≡ (sum + dword s at) % 2 ^ 32 → summed s r next ≡ all
  sum_turn sum at next r w n l e = sum_step sum r 0 sum r at next w (omega arith) (omega arith) n l e

  -- four dwords are added to four sums, one to each
  sum_row : (at p q r next a b c d a₁ b₁ c₁ d₁ : ℕ) → summed s (a + b + c + d) at ≡ all
      → p ≡ at + 4 → q ≡ at + 8 → r ≡ at + 12 → next ≡ at + 16 → next ≤ length s
      → a₁ ≡ (a + dword s at) % 2 ^ 32 → b₁ ≡ (b + dword s p) % 2 ^ 32
      → c₁ ≡ (c + dword s q) % 2 ^ 32 → d₁ ≡ (d + dword s r) % 2 ^ 32 → summed s (a₁ + b₁ + c₁ + d₁) next ≡ all
  sum_row at p q r next a b c d a₁ b₁ c₁ d₁ w x y z n l e f g h =
      let u = sum_step _ (a₁ + b + c + d) (b + c + d) a a₁ at p w (omega arith) (omega arith) (omega arith) (omega arith) e in
      let v = sum_step _ (a₁ + b₁ + c + d) (a₁ + c + d) b b₁ p q u (omega arith) (omega arith) (omega arith) (omega arith) f in
      let k = sum_step _ (a₁ + b₁ + c₁ + d) (a₁ + b₁ + d) c c₁ q r v (omega arith) (omega arith) (omega arith) (omega arith) g in
      sum_step _ (a₁ + b₁ + c₁ + d₁) (a₁ + b₁ + c₁) d d₁ r next k (omega arith) (omega arith) (omega arith) (omega arith) h

  -- sixteen dwords are added to four sums, every fourth to the same
  pub sum_sixteen : (at next a b c d a₁ b₁ c₁ d₁ a₂ b₂ c₂ d₂ a₃ b₃ c₃ d₃ a₄ b₄ c₄ d₄ : ℕ)
      → summed s (a + b + c + d) at ≡ all → next ≡ at + 64 → next ≤ length s
      → a₁ ≡ (a + dword s at) % 2 ^ 32 → b₁ ≡ (b + dword s (at + 4)) % 2 ^ 32
      → c₁ ≡ (c + dword s (at + 8)) % 2 ^ 32 → d₁ ≡ (d + dword s (at + 12)) % 2 ^ 32
      → a₂ ≡ (a₁ + dword s (at + 16)) % 2 ^ 32 → b₂ ≡ (b₁ + dword s (at + 20)) % 2 ^ 32
      → c₂ ≡ (c₁ + dword s (at + 24)) % 2 ^ 32 → d₂ ≡ (d₁ + dword s (at + 28)) % 2 ^ 32
      → a₃ ≡ (a₂ + dword s (at + 32)) % 2 ^ 32 → b₃ ≡ (b₂ + dword s (at + 36)) % 2 ^ 32
      → c₃ ≡ (c₂ + dword s (at + 40)) % 2 ^ 32 → d₃ ≡ (d₂ + dword s (at + 44)) % 2 ^ 32
      → a₄ ≡ (a₃ + dword s (at + 48)) % 2 ^ 32 → b₄ ≡ (b₃ + dword s (at + 52)) % 2 ^ 32
      → c₄ ≡ (c₃ + dword s (at + 56)) % 2 ^ 32 → d₄ ≡ (d₃ + dword s (at + 60)) % 2 ^ 32
      → summed s (a₄ + b₄ + c₄ + d₄) next ≡ all
  sum_sixteen at next a b c d a₁ b₁ c₁ d₁ a₂ b₂ c₂ d₂ a₃ b₃ c₃ d₃ a₄ b₄ c₄ d₄ w n l e₁ f₁ g₁ h₁ e₂ f₂ g₂ h₂ e₃ f₃ g₃ h₃ e₄ f₄ g₄ h₄ =
      let x = sum_row at _ _ _ (at + 16) a b c d _ _ _ _ w (omega arith) (omega arith) (omega arith) (omega arith) (omega arith) e₁ f₁ g₁ h₁ in
      let y = sum_row (at + 16) _ _ _ (at + 32) a₁ b₁ c₁ d₁ _ _ _ _ x (omega arith) (omega arith) (omega arith) (omega arith) (omega arith) e₂ f₂ g₂ h₂ in
      let z = sum_row (at + 32) _ _ _ (at + 48) a₂ b₂ c₂ d₂ _ _ _ _ y (omega arith) (omega arith) (omega arith) (omega arith) (omega arith) e₃ f₃ g₃ h₃ in
      sum_row (at + 48) _ _ _ next a₃ b₃ c₃ d₃ _ _ _ _ z (omega arith) (omega arith) (omega arith) (omega arith) (omega arith) e₄ f₄ g₄ h₄

  -- four sums become two, x and y, and these one
  pub sum_four : (at a b c d x y r : ℕ) → summed s (a + b + c + d) at ≡ all
      → x ≡ (a + b) % 2 ^ 32 → y ≡ (c + d) % 2 ^ 32 → r ≡ (x + y) % 2 ^ 32 → summed s r at ≡ all
  sum_four at a b c d x y r w e f g =
      let v = sum_join _ (x + c + d) (c + d) a b x at w (omega arith) (omega arith) e in
      let u = sum_join _ (x + y) x c d y at v (omega arith) (omega arith) f in
      sum_join _ r 0 x y r at u (omega arith) (omega arith) g

total_append : (n : ℕ) (a b : List ℕ) → length a ≡ 4 * n → total (dwords_of (a ++ b)) ≡ total (dwords_of a) + total (dwords_of b)
unfolding dwords_of total
total_append zero [] b e = omega arith
total_append zero (x ∷ a) b e = absurd (omega arith)
total_append (suc n) [] b e = absurd (omega arith)
total_append (suc n) (x ∷ []) b e = absurd (omega arith)
total_append (suc n) (x ∷ y ∷ []) b e = absurd (omega arith)
total_append (suc n) (x ∷ y ∷ z ∷ []) b e = absurd (omega arith)
total_append (suc n) (x ∷ y ∷ z ∷ w ∷ a) b e = let h = total_append n a b (omega arith) in omega arith

pub sum_append : (n : ℕ) (a b : List ℕ) → length a ≡ 4 * n → dword_sum (a ++ b) ≡ (dword_sum a + dword_sum b) % 2 ^ 32
unfolding dword_sum
sum_append n a b e = let h = total_append n a b e in omega arith
