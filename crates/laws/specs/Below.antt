-- "Each number below n" and "some number below n", as Bools that compute.
--   all_below, any_below    the two tests
--   rows                    one scan inside another
--   all_none, all_more      the first at 0 and at i + 1
--   all_stop, all_at        it is false where one number fails; where it is true, each passes
--   all_true, all_cong      it is true where each passes; two tests that agree below n
--   any_none, any_more      the second at 0 and at i + 1
--   any_stop, any_at        it is true where one number passes; where it is true, one does
--   any_fails, any_false    where it is false, each fails; it is false where each does
--   any_cong                two tests that agree below n
use Prim.Native.Nat.{ℕ, zero, suc, ◌+◌, ◌<◌}
use Rattle.std.specs.Prelude.{◌≡◌, Bool, true, false, ◌&&◌, ◌||◌}
use Rattle.std.proofs.Math.Path.{refl}
use Rattle.std.proofs.Common.{sym, ◌∙◌, true≢false, eq-or-lt_of_le, le_of_suc-le-suc, not-suc-le-zero, add-one, arith}
use Rattle.std.proofs.Math.Bool.{and-false, or-true}
use Rattle.std.proofs.Math.Logic.{⊎_elim}
use Rattle.laws.specs.Bools.{and_parts, no_true}

-- p holds of each number below n
unfoldable pub all_below : ℕ → (ℕ → Bool) → Bool
all_below zero p = true
all_below (suc n) p = all_below n p && p n

-- p holds of some number below n
unfoldable pub any_below : ℕ → (ℕ → Bool) → Bool
any_below zero p = false
any_below (suc n) p = any_below n p || p n

-- row i passes if q i j does for some j below n
unfoldable pub rows : ℕ → (ℕ → ℕ → Bool) → ℕ → Bool
rows n q i = any_below n (q i)

module _ (p : ℕ → Bool) where
  pub all_none : all_below 0 p ≡ true
  unfolding all_below
  all_none = refl

  pub all_more : (i : ℕ) → all_below i p ≡ true → p i ≡ true → all_below (i + 1) p ≡ true
  unfolding all_below
  all_more i h e = rw (add-one, h, e)

  pub all_stop : (n k : ℕ) → k < n → p k ≡ false → all_below n p ≡ false
  unfolding all_below
  all_stop zero k l e = absurd (not-suc-le-zero l)
  all_stop (suc n) k l e =
      ⊎_elim (λ q. rw (← q, e) (and-false (all_below k p)))
      (λ m. rw (all_stop n k m e))
      (eq-or-lt_of_le (le_of_suc-le-suc l))

  pub all_at : (n k : ℕ) → all_below n p ≡ true → k < n → p k ≡ true
  unfolding all_below
  all_at zero k h l = absurd (not-suc-le-zero l)
  all_at (suc n) k h l =
      let ab = and_parts (all_below n p) (p n) h in
      ⊎_elim (λ q. rw q ab.1)
      (λ m. all_at n k ab.0 m)
      (eq-or-lt_of_le (le_of_suc-le-suc l))

  pub all_true : (n : ℕ) → ((k : ℕ) → k < n → p k ≡ true) → all_below n p ≡ true
  unfolding all_below
  all_true zero h = refl
  all_true (suc n) h = rw (all_true n (λ k l. h k (omega arith)), h n (omega arith))

  pub any_none : any_below 0 p ≡ false
  unfolding any_below
  any_none = refl

  pub any_more : (i : ℕ) → any_below i p ≡ false → p i ≡ false → any_below (i + 1) p ≡ false
  unfolding any_below
  any_more i h e = rw (add-one, h, e)

  pub any_stop : (n k : ℕ) → k < n → p k ≡ true → any_below n p ≡ true
  unfolding any_below
  any_stop zero k l e = absurd (not-suc-le-zero l)
  any_stop (suc n) k l e =
      ⊎_elim (λ q. rw (← q, e) (or-true (any_below k p)))
      (λ m. rw (any_stop n k m e))
      (eq-or-lt_of_le (le_of_suc-le-suc l))

  any_step : (n : ℕ) (a : Bool) → any_below n p ≡ a → (any_below n p ≡ true → (k : ℕ) × (k < n) × (p k ≡ true)) → a || p n ≡ true → (k : ℕ) × (k < suc n) × (p k ≡ true)
  any_step n true q r h = let w = r q in (w.0, omega arith, w.2)
  any_step n false q r h = (n, omega arith, h)

  pub any_at : (n : ℕ) → any_below n p ≡ true → (k : ℕ) × (k < n) × (p k ≡ true)
  unfolding any_below
  any_at zero h = absurd (true≢false (sym h))
  any_at (suc n) h = any_step n (any_below n p) refl (any_at n) h

  pub any_fails : (n k : ℕ) → any_below n p ≡ false → k < n → p k ≡ false
  any_fails n k h l = no_true (p k) (λ e. true≢false (sym (any_stop n k l e) ∙ h))

  pub any_false : (n : ℕ) → ((k : ℕ) → k < n → p k ≡ false) → any_below n p ≡ false
  any_false n h = no_true (any_below n p) (λ e. let w = any_at n e in true≢false (sym w.2 ∙ h w.0 w.1))

-- only what stands below n counts
pub all_cong : (p q : ℕ → Bool) (n : ℕ) → ((k : ℕ) → k < n → p k ≡ q k) → all_below n p ≡ all_below n q
unfolding all_below
all_cong p q zero h = refl
all_cong p q (suc n) h = rw (all_cong p q n (λ k l. h k (omega arith)), h n (omega arith))

pub any_cong : (p q : ℕ → Bool) (n : ℕ) → ((k : ℕ) → k < n → p k ≡ q k) → any_below n p ≡ any_below n q
unfolding any_below
any_cong p q zero h = refl
any_cong p q (suc n) h = rw (any_cong p q n (λ k l. h k (omega arith)), h n (omega arith))
