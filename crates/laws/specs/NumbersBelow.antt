-- The numbers below n that pass a test, in order, each by the number that stands for it.
--   itself           a number stands for itself
--   list_below       the list
--   NumbersBelow, numbers_below   what it is, beside the list of the numbers themselves
--   list_cong        two tests that agree below n, and two values for each number that passes, give one list
use Rattle.std.specs.Prelude.{ℕ, zero, suc, ◌<◌, ◌≤◌, ◌≡◌, refl, Bool, true, false, cond, List, [], ◌∷◌, ◌++◌, length, get_or}
use Rattle.std.proofs.Common.{sym, ◌∙◌, true≢false, ⊎_elim, eq-or-lt_of_le, le_of_suc-le-suc, not-suc-le-zero, arith, length-append}
use Rattle.std.proofs.Math.ListN.{get_or-append}
use Rattle.std.proofs.lemmas.List.{get_or_at}

abbrev pub itself : ℕ → ℕ
itself n = n

unfoldable pub list_below : (ℕ → Bool) → (ℕ → ℕ) → ℕ → List ℕ
list_below p f zero = []
list_below p f (suc n) = cond (p n) (list_below p f n ++ (f n ∷ [])) (list_below p f n)

-- xs has the numbers below n that pass p, in order, and ys beside each what f gives for it
pub record NumbersBelow (p : ℕ → Bool) (f : ℕ → ℕ) (n : ℕ) (xs ys : List ℕ) : Type 0 where
  pub few : length xs ≤ n
  pub long : length ys ≡ length xs
  pub below : (i : ℕ) → i < length xs → get_or xs i 0 < n
  pub passes : (i : ℕ) → i < length xs → p (get_or xs i 0) ≡ true
  pub values : (i : ℕ) → i < length xs → get_or ys i 0 ≡ f (get_or xs i 0)
  pub rises : (i j : ℕ) → j < i → i < length xs → get_or xs j 0 < get_or xs i 0
  pub whole : (b : ℕ) → b < n → p b ≡ true → (i : ℕ) × (i < length xs) × (get_or xs i 0 ≡ b)

module _ (p : ℕ → Bool) (f : ℕ → ℕ) (n : ℕ) (xs ys : List ℕ) (h : NumbersBelow p f n xs ys) where
  -- a number that fails
  skipped : p n ≡ false → NumbersBelow p f (suc n) xs ys
  skipped e = record {
    few = omega (arith, h.few);
    long = h.long;
    below = λ i l. omega (arith, h.below i l);
    passes = h.passes;
    values = h.values;
    rises = h.rises;
    whole = λ b l q. ⊎_elim (λ (w : b ≡ n). absurd (true≢false (sym q ∙ rw w e))) (λ m. h.whole b m q) (eq-or-lt_of_le (le_of_suc-le-suc l));
  }

  -- a number that passes stands at the end
  module _ (e : p n ≡ true) where
    longer : length (xs ++ (n ∷ [])) ≡ suc (length xs)
    longer = omega (arith, length-append xs (n ∷ []))

    old : (i : ℕ) → i < length xs → get_or (xs ++ (n ∷ [])) i 0 ≡ get_or xs i 0
    old i l = get_or-append xs (n ∷ []) 0 i l

    new : (i : ℕ) → i ≡ length xs → get_or (xs ++ (n ∷ [])) i 0 ≡ n
    new i q = get_or_at xs n [] 0 i (sym q)

    -- what holds of those before and of n holds of each
    each : (P : ℕ → Type 0) → ((i : ℕ) → i < length xs → P (get_or xs i 0)) → P n → (i : ℕ) → i < length (xs ++ (n ∷ [])) → P (get_or (xs ++ (n ∷ [])) i 0)
    each P a b i l =
        ⊎_elim (λ (q : i ≡ length xs). rw (new i q) b) (λ (m : i < length xs). rw (old i m) (a i m))
        (eq-or-lt_of_le {n = i} {m = length xs} (omega (arith, longer)))

    taken : NumbersBelow p f (suc n) (xs ++ (n ∷ [])) (ys ++ (f n ∷ []))
    taken = record {
      few = omega (arith, h.few, longer);
      long = omega (arith, h.long, longer, length-append ys (f n ∷ []));
      below = each (λ b. b < suc n) (λ i l. omega (arith, h.below i l)) (omega arith);
      passes = each (λ b. p b ≡ true) h.passes e;
      values = λ i l.
          ⊎_elim (λ (q : i ≡ length xs). rw (new i q) (get_or_at ys (f n) [] 0 i (h.long ∙ sym q)))
          (λ (m : i < length xs). rw (old i m) (get_or-append ys (f n ∷ []) 0 i (omega (arith, h.long)) ∙ h.values i m))
          (eq-or-lt_of_le {n = i} {m = length xs} (omega (arith, longer)));
      rises = λ i j l m.
          let k : j < length xs = omega (arith, longer) in
          ⊎_elim (λ (q : i ≡ length xs). rw (new i q, old j k) (h.below j k)) (λ (o : i < length xs). rw (old i o, old j k) (h.rises i j l o))
          (eq-or-lt_of_le {n = i} {m = length xs} (omega (arith, longer)));
      whole = λ b l q.
          ⊎_elim (λ (w : b ≡ n). (length xs, omega (arith, longer), new (length xs) refl ∙ sym w))
          (λ m. let w = h.whole b m q in (w.0, omega (arith, longer, w.1), old w.0 w.1 ∙ w.2))
          (eq-or-lt_of_le (le_of_suc-le-suc l));
    }

pub numbers_below : (p : ℕ → Bool) (f : ℕ → ℕ) (n : ℕ) → NumbersBelow p f n (list_below p itself n) (list_below p f n)
unfolding list_below
numbers_below p f zero = record {
  few = omega arith;
  long = refl;
  below = λ i l. absurd (not-suc-le-zero l);
  passes = λ i l. absurd (not-suc-le-zero l);
  values = λ i l. absurd (not-suc-le-zero l);
  rises = λ i j l m. absurd (not-suc-le-zero m);
  whole = λ b l q. absurd (not-suc-le-zero l);
}
numbers_below p f (suc n) = go (p n) refl (numbers_below p f n)
  where
    go : (t : Bool) → p n ≡ t → NumbersBelow p f n (list_below p itself n) (list_below p f n)
        → NumbersBelow p f (suc n) (cond t (list_below p itself n ++ (n ∷ [])) (list_below p itself n)) (cond t (list_below p f n ++ (f n ∷ [])) (list_below p f n))
    go true e h = taken p f n (list_below p itself n) (list_below p f n) h e
    go false e h = skipped p f n (list_below p itself n) (list_below p f n) h e

pub list_cong : (p q : ℕ → Bool) (f g : ℕ → ℕ) (n : ℕ) → ((b : ℕ) → b < n → p b ≡ q b) → ((b : ℕ) → b < n → q b ≡ true → f b ≡ g b) → list_below p f n ≡ list_below q g n
unfolding list_below
list_cong p q f g zero h k = refl
list_cong p q f g (suc n) h k =
    rw (h n (omega arith), list_cong p q f g n (λ b l. h b (omega arith)) (λ b l. k b (omega arith))) (go (q n) refl)
  where
    go : (t : Bool) → q n ≡ t → cond t (list_below q g n ++ (f n ∷ [])) (list_below q g n) ≡ cond t (list_below q g n ++ (g n ∷ [])) (list_below q g n)
    go true e = rw (k n (omega arith) e)
    go false e = refl
