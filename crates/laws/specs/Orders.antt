-- Orders of numbers.
--   le_or_lt      two numbers in one order or the other
--   impossible    0 is not 1: with `cc`, two cases that can't both be
use Rattle.std.specs.Prelude.{ℕ, ◌<◌, ◌≤◌, ◌≡◌, refl, Bool, true, false, ◌⊎◌, leb}
use Rattle.std.proofs.Common.{inl, inr, arith, leb-true, leb-false}

pub le_or_lt : (a b : ℕ) → (a ≤ b) ⊎ (b < a)
le_or_lt a b = go (leb a b) refl
  where
    go : (t : Bool) → leb a b ≡ t → (a ≤ b) ⊎ (b < a)
    go true e = inl (leb-true a b e)
    go false e = inr (leb-false a b e)

pub impossible : ◌≡◌ {A = ℕ} 0 1 → ⊥
impossible e = omega arith
