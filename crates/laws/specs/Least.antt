-- The least of finitely many numbers: among those below k that are open, the one of least cost, and the lowest of these on a tie.
--   Pick              none, or a number with its cost
--   better            the pick so far against one more number
--   least             the pick among the numbers below k
--   IsLeast           s is open and costs c; no open number below k costs less, and each open one before s costs more
--   Promised          what a pick says: of none, that each number below k is shut; of a number, IsLeast
use Prim.Native.Nat.{ℕ, zero, suc, ◌<◌, ◌≤◌}
use Rattle.std.specs.Prelude.{◌≡◌, Bool, true, false, cond, ltb}

pub data Pick : Type 0 where
  nowhere : Pick
  at : (start cost : ℕ) → Pick

-- a later number s of cost c is taken only if it costs less
abbrev pub better : Pick → ℕ → ℕ → Pick
better nowhere s c = at s c
better (at t d) s c = cond (ltb c d) (at s c) (at t d)

unfoldable pub least : (ℕ → Bool) → (ℕ → ℕ) → ℕ → Pick
least shut cost zero = nowhere
least shut cost (suc k) = cond (shut k) (least shut cost k) (better (least shut cost k) k (cost k))

pub record IsLeast (shut : ℕ → Bool) (cost : ℕ → ℕ) (k s c : ℕ) : Type 0 where
  pub below : s < k
  pub «open» : shut s ≡ false
  pub costs : cost s ≡ c
  pub cheapest : (t : ℕ) → t < k → shut t ≡ false → c ≤ cost t
  -- an open number before it costs more
  pub first : (t : ℕ) → t < s → shut t ≡ false → c < cost t

abbrev pub Promised : (ℕ → Bool) → (ℕ → ℕ) → ℕ → Pick → Type 0
Promised shut cost k nowhere = (t : ℕ) → t < k → shut t ≡ true
Promised shut cost k (at s c) = IsLeast shut cost k s c
