-- The first number below n that passes a test.
--   first_below                the first, or n where none passes
--   First, first_is            what the first is
--   first_found, first_none    it, from a scan
--   first_cong                 two tests that agree below n
use Rattle.std.specs.Prelude.{ℕ, zero, suc, ◌<◌, ◌≤◌, ◌≡◌, refl, Bool, true, false, cond, ltb}
use Rattle.std.proofs.Common.{sym, ◌∙◌, true≢false, ⊎_elim, eq-or-lt_of_le, le_of_suc-le-suc, not-suc-le-zero, arith, ltb-true, ltb-false}
use Rattle.laws.specs.Below.{any_below, any_fails}
use Rattle.laws.specs.Orders.{le_or_lt}

unfoldable pub first_below : ℕ → (ℕ → Bool) → ℕ
first_below zero p = 0
first_below (suc n) p = cond (ltb (first_below n p) n) (first_below n p) (cond (p n) n (suc n))

-- what `first_below n p` is: at most n; each number before it fails; if it is below n it passes
pub record First (n : ℕ) (p : ℕ → Bool) (f : ℕ) : Type 0 where
  pub within : f ≤ n
  pub before : (k : ℕ) → k < f → p k ≡ false
  pub passes : f < n → p f ≡ true

pub first_is : (n : ℕ) (p : ℕ → Bool) → First n p (first_below n p)
unfolding first_below
first_is zero p = record { within = omega arith; before = λ k l. absurd (not-suc-le-zero l); passes = λ l. absurd (not-suc-le-zero l) }
first_is (suc n) p = go (ltb (first_below n p) n) refl (p n) refl (first_is n p)
  where
    go : (t : Bool) → ltb (first_below n p) n ≡ t → (u : Bool) → p n ≡ u → First n p (first_below n p) → First (suc n) p (cond t (first_below n p) (cond u n (suc n)))
    go true e u q f = record { within = omega (arith, f.within); before = f.before; passes = λ l. f.passes (ltb-true _ _ e) }
    go false e true q f =
        let d : first_below n p ≡ n = omega (arith, f.within, ltb-false (first_below n p) n e) in
        record { within = omega arith; before = λ k l. f.before k (omega arith); passes = λ l. q }
    go false e false q f =
        let d : first_below n p ≡ n = omega (arith, f.within, ltb-false (first_below n p) n e) in
        record {
          within = omega arith;
          before = λ k l. ⊎_elim (λ (z : k ≡ n). rw z q) (λ m. f.before k (omega arith)) (eq-or-lt_of_le (le_of_suc-le-suc l));
          passes = λ l. absurd (let v : ⊥ = omega arith in v);
        }

-- the first, found by a scan that has passed the numbers below i
pub first_found : (n i : ℕ) (p : ℕ → Bool) → any_below i p ≡ false → i < n → p i ≡ true → first_below n p ≡ i
first_found n i p h l e =
    let f = first_is n p in
    ⊎_elim
    (λ (a : first_below n p ≤ i).
    ⊎_elim (λ q. q) (λ (q : first_below n p < i). absurd (true≢false (sym (f.passes (omega arith)) ∙ any_fails p i (first_below n p) h q))) (eq-or-lt_of_le a))
    (λ (a : i < first_below n p). absurd (true≢false (sym e ∙ f.before i a)))
    (le_or_lt (first_below n p) i)

pub first_none : (n : ℕ) (p : ℕ → Bool) → any_below n p ≡ false → first_below n p ≡ n
first_none n p h =
    let f = first_is n p in
    ⊎_elim (λ q. q) (λ (q : first_below n p < n). absurd (true≢false (sym (f.passes q) ∙ any_fails p n (first_below n p) h q))) (eq-or-lt_of_le f.within)

pub first_cong : (p q : ℕ → Bool) (n : ℕ) → ((k : ℕ) → k < n → p k ≡ q k) → first_below n p ≡ first_below n q
unfolding first_below
first_cong p q zero h = refl
first_cong p q (suc n) h = rw (first_cong p q n (λ k l. h k (omega arith)), h n (omega arith))
