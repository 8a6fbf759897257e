-- How many numbers below n pass a test.
--   count_below              how many
--   count_mono, count_cong   who passes one test passes the other; the two tests are the same
--   count_most, count_up     no more pass than there are, and no fewer below a greater bound
--   count_zero               where none is counted, none passes
--   count_gap, count_run     a bound raised over numbers none of which passes, and all of which do
--   count_full               who passes one test passes the other, and as many pass both: the tests are the same
--   either, second           to pass one of two tests, and to pass the second alone
--   count_split              those that pass one of two: those that pass the first, and those that pass the second alone
--   counting                 a loop that counts, as `search` takes it
use Prim.Native.Nat.{ℕ, zero, suc, ◌+◌, ◌-◌, ◌<◌, ◌≤◌}
use Rattle.std.specs.Prelude.{◌≡◌, Bool, true, false, cond, not, ◌&&◌, ◌||◌}
use Rattle.std.proofs.Math.Path.{refl}
use Rattle.std.proofs.Common.{sym, ⊎_elim, eq-or-lt_of_le, le_of_suc-le-suc, add-one}
use native.Mathlib.Omega.{arith}

unfoldable pub count_below : ℕ → (ℕ → Bool) → ℕ
count_below zero p = 0
count_below (suc n) p = cond (p n) (count_below n p + 1) (count_below n p)

one_mono : (a b : Bool) (m n : ℕ) → (a ≡ true → b ≡ true) → m ≤ n → cond a (m + 1) m ≤ cond b (n + 1) n
one_mono true b m n f l = rw (f refl) (omega arith)
one_mono false true m n f l = omega arith
one_mono false false m n f l = l

-- who passes p passes q
pub count_mono : (p q : ℕ → Bool) (n : ℕ) → ((k : ℕ) → k < n → p k ≡ true → q k ≡ true) → count_below n p ≤ count_below n q
unfolding count_below
count_mono p q zero h = omega arith
count_mono p q (suc n) h = one_mono (p n) (q n) (count_below n p) (count_below n q) (h n (omega arith)) (count_mono p q n (λ k l. h k (omega arith)))

-- only what stands below n counts
pub count_cong : (p q : ℕ → Bool) (n : ℕ) → ((k : ℕ) → k < n → p k ≡ q k) → count_below n p ≡ count_below n q
unfolding count_below
count_cong p q zero h = refl
count_cong p q (suc n) h = rw (count_cong p q n (λ k l. h k (omega arith)), h n (omega arith))

one_most : (a : Bool) (m : ℕ) → (m ≤ cond a (m + 1) m) × (cond a (m + 1) m ≤ m + 1)
one_most true m = (omega arith, omega arith)
one_most false m = (omega arith, omega arith)

pub count_most : (p : ℕ → Bool) (n : ℕ) → count_below n p ≤ n
unfolding count_below
count_most p zero = omega arith
count_most p (suc n) = omega (arith, (one_most (p n) (count_below n p)).1, count_most p n)

pub count_up : (p : ℕ → Bool) (m n : ℕ) → m ≤ n → count_below m p ≤ count_below n p
unfolding count_below
count_up p m zero l = let e : m ≡ 0 = omega arith in rw e (omega arith)
count_up p m (suc n) l =
    ⊎_elim (λ (q : m ≡ suc n). rw q (omega arith))
    (λ (q : m < suc n). omega (arith, (one_most (p n) (count_below n p)).0, count_up p m n (omega arith)))
    (eq-or-lt_of_le l)

one_zero : (a : Bool) (m : ℕ) → cond a (m + 1) m ≡ 0 → (a ≡ false) × (m ≡ 0)
one_zero true m h = absurd (omega arith)
one_zero false m h = (refl, h)

pub count_zero : (p : ℕ → Bool) (n k : ℕ) → count_below n p ≡ 0 → k < n → p k ≡ false
unfolding count_below
count_zero p zero k h l = absurd (omega arith)
count_zero p (suc n) k h l =
    let z = one_zero (p n) (count_below n p) h in
    ⊎_elim (λ (q : k ≡ n). rw q z.0)
    (λ (q : k < n). count_zero p n k z.1 q)
    (eq-or-lt_of_le (le_of_suc-le-suc l))

module _ (p : ℕ → Bool) (m : ℕ) where
  pub count_run : (k : ℕ) → ((j : ℕ) → m ≤ j → j < m + k → p j ≡ true) → count_below (m + k) p ≡ count_below m p + k
  unfolding count_below
  count_run zero h = let e : m + 0 ≡ m = omega arith in rw e (omega arith)
  count_run (suc k) h =
      let e : m + suc k ≡ suc (m + k) = omega arith in
      rw (e, h (m + k) (omega arith) (omega arith)) (omega (arith, count_run k (λ j l u. h j l (omega arith))))

  gap_from : (k : ℕ) → ((j : ℕ) → m ≤ j → j < m + k → p j ≡ false) → count_below (m + k) p ≡ count_below m p
  unfolding count_below
  gap_from zero h = let e : m + 0 ≡ m = omega arith in rw e
  gap_from (suc k) h =
      let e : m + suc k ≡ suc (m + k) = omega arith in
      rw (e, h (m + k) (omega arith) (omega arith)) (gap_from k (λ j l u. h j l (omega arith)))

  pub count_gap : (n : ℕ) → m ≤ n → ((j : ℕ) → m ≤ j → j < n → p j ≡ false) → count_below n p ≡ count_below m p
  count_gap n l h = let e : m + (n - m) ≡ n = omega arith in rw e at (gap_from (n - m) (λ j a b. h j a (omega arith)))

one_full : (a b : Bool) (m n : ℕ) → (a ≡ true → b ≡ true) → m ≤ n → cond a (m + 1) m ≡ cond b (n + 1) n → (a ≡ b) × (m ≡ n)
one_full true b m n f l e = let q = f refl in (sym q, omega (arith, rw q at e))
one_full false true m n f l e = absurd (omega arith)
one_full false false m n f l e = (refl, e)

pub count_full : (p q : ℕ → Bool) (n : ℕ) → ((j : ℕ) → j < n → p j ≡ true → q j ≡ true) → count_below n p ≡ count_below n q → (k : ℕ) → k < n → p k ≡ q k
unfolding count_below
count_full p q zero h e k l = absurd (omega arith)
count_full p q (suc n) h e k l =
    let w = one_full (p n) (q n) (count_below n p) (count_below n q) (h n (omega arith)) (count_mono p q n (λ j m. h j (omega arith))) e in
    ⊎_elim (λ (r : k ≡ n). rw r w.0)
    (λ (r : k < n). count_full p q n (λ j m. h j (omega arith)) w.1 k r)
    (eq-or-lt_of_le (le_of_suc-le-suc l))

-- a number passes p or q
unfoldable pub either : (ℕ → Bool) → (ℕ → Bool) → ℕ → Bool
either p q k = p k || q k

-- a number passes q and not p
unfoldable pub second : (ℕ → Bool) → (ℕ → Bool) → ℕ → Bool
second p q k = not (p k) && q k

one_split : (a b : Bool) (l m n : ℕ) → l ≡ m + n → cond (a || b) (l + 1) l ≡ cond a (m + 1) m + cond (not a && b) (n + 1) n
one_split true b l m n e = omega arith
one_split false true l m n e = omega arith
one_split false false l m n e = e

pub count_split : (p q : ℕ → Bool) (n : ℕ) → count_below n (either p q) ≡ count_below n p + count_below n (second p q)
unfolding count_below either second
count_split p q zero = refl
count_split p q (suc n) = one_split (p n) (q n) _ _ _ (count_split p q n)

-- the loop: c is the count so far, r what a call answered of number i, m the local that holds the bound n
module _ (p : ℕ → Bool) where
  pub count_none : 0 ≡ count_below 0 p
  unfolding count_below
  count_none = refl

  module _ (i c : ℕ) (h : c ≡ count_below i p) where
    pub count_yes : (r : Bool) → r ≡ p i → r ≡ true → c + 1 ≡ count_below (i + 1) p
    unfolding count_below
    count_yes r e t = rw (add-one i, ← e, t, h)

    pub count_no : (r : Bool) → r ≡ p i → r ≡ false → c ≡ count_below (i + 1) p
    unfolding count_below
    count_no r e t = rw (add-one i, ← e, t) h

    pub count_done : (m n : ℕ) → m ≡ n → i ≤ m → m ≤ i → c ≡ count_below n p
    count_done m n q l k = let e : i ≡ n = omega arith in rw e at h

pub ruleset counting = (count_none, count_yes, count_no, count_done)
