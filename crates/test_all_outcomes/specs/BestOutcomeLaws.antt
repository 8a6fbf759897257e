-- The program's fold finds the best outcome.
--   best_law     what `best` gives is the first of the legal outcomes that empty the fewest, or none where none is legal
use Rattle.std.specs.Prelude.{◌≡◌, ℕ, zero, suc, ◌+◌, ◌*◌, ◌/◌, ◌%◌, ◌<◌, ◌≤◌, Bool, true, false, cond, not, ◌&&◌, nat_le, Option, Some, None}
use Rattle.std.proofs.Math.Path.{refl}
use Rattle.std.proofs.Common.{sym, ◌∙◌, true≢false, inr, eq-or-lt_of_le, le_of_suc-le-suc, not-suc-le-zero, leb-true, leb-false}
use Rattle.std.proofs.Math.Logic.{inl, ⊎_elim}
use native.Mathlib.Omega.{arith}
use Rattle.test_all_outcomes.specs.declared.layout.Layout.{Layout}
use Rattle.test_all_outcomes.specs.declared.outcomes.Outcome.{Outcome}
use Rattle.test_all_outcomes.specs.TriedOutcomes.{numbered, no_worse, better, best_at, best_to, best}
use Rattle.test_all_outcomes.specs.BestOutcome.{legal_at, emptied_by, outcome_at, FirstFewest, BestBelow, Best}

module _ (l : Layout) (n c : ℕ) where
  -- what holds of each legal outcome below c, and of c if it is legal, holds of each below c + 1
  each : (P : ℕ → Type 0) → ((j : ℕ) → j < c → legal_at l n j ≡ true → P j) → (legal_at l n c ≡ true → P c) → (j : ℕ) → j < suc c
      → legal_at l n j ≡ true → P j
  each P f g j h =
      ⊎_elim (λ (q : j ≡ c). rw q g) (λ (m : j < c). f j m) (eq-or-lt_of_le (le_of_suc-le-suc h))

  -- outcome c isn't legal: the best stays
  skipped : (o : Option Outcome) → legal_at l n c ≡ false → BestBelow l n c o → BestBelow l n (suc c) o
  skipped o e (inl b) = inl (b.0, λ j h. ⊎_elim (λ (q : j ≡ c). rw q e) (λ (m : j < c). b.1 j m) (eq-or-lt_of_le (le_of_suc-le-suc h)))
  skipped o e (inr b) =
      let w = b.2 in
      inr (
        b.0,
        b.1,
        record {
          below = omega (arith, w.below);
          allowed = w.allowed;
          fewest = each (λ j. emptied_by b.0 ≤ emptied_by j) w.fewest (λ h. absurd (true≢false (sym h ∙ e)));
          first = w.first;
        },
      )

  -- outcome c is legal and is the first
  fresh : legal_at l n c ≡ true → ((j : ℕ) → j < c → legal_at l n j ≡ true → emptied_by c < emptied_by j) → BestBelow l n (suc c) (Some (outcome_at c))
  fresh e f =
      inr (
        c,
        refl,
        record {
          below = omega arith;
          allowed = e;
          fewest = each (λ j. emptied_by c ≤ emptied_by j) (λ j h k. omega (arith, f j h k)) (λ h. omega arith);
          first = f;
        },
      )

  -- outcome c is legal, and empties no fewer than the best so far
  kept : (m : ℕ) → FirstFewest l n c m → emptied_by m ≤ emptied_by c → FirstFewest l n (suc c) m
  kept m w h = record {
    below = omega (arith, w.below);
    allowed = w.allowed;
    fewest = each (λ j. emptied_by m ≤ emptied_by j) w.fewest (λ k. h);
    first = w.first;
  }

  -- t: the best so far empties no more than outcome c
  found : (m : ℕ) (t : Bool) → nat_le (emptied_by m) (emptied_by c) ≡ t → legal_at l n c ≡ true → FirstFewest l n c m
      → BestBelow l n (suc c) (cond (not t) (Some (outcome_at c)) (Some (outcome_at m)))
  found m true q e w = inr (m, refl, kept m w (leb-true (emptied_by m) (emptied_by c) q))
  found m false q e w =
      let z : emptied_by c < emptied_by m = leb-false (emptied_by m) (emptied_by c) q in
      fresh e (λ j h k. omega (arith, w.fewest j h k))

  -- outcome c is tried
  module _ (o : Option Outcome) (b : BestBelow l n c o) where
    tried : (t : Bool) → legal_at l n c ≡ t → BestBelow l n (suc c) (cond (t && not (no_worse o (emptied_by c))) (Some (outcome_at c)) o)
    unfolding no_worse
    tried false e = skipped o e b
    tried true e =
        ⊎_elim (λ (d : (o ≡ None) × ((j : ℕ) → j < c → legal_at l n j ≡ false)).
        rw d.0 (fresh e (λ j h k. absurd (true≢false (sym k ∙ d.1 j h)))))
        (λ (d : (m : ℕ) × (o ≡ Some (outcome_at m)) × FirstFewest l n c m).
        rw d.1 (found d.0 (nat_le (emptied_by d.0) (emptied_by c)) refl e d.2))
        b

    -- by its start and its set
    step : (start k : ℕ) → c / 16 ≡ start → c % 16 ≡ k → BestBelow l n (suc c) (better o l n start (numbered k))
    unfolding better
    step start k e f = rw (← e, ← f) (tried (legal_at l n c) refl)

module _ (l : Layout) (n : ℕ) where
  -- the sets at a start
  sets : (o : Option Outcome) (start k : ℕ) → k ≤ 16 → BestBelow l n (16 * start) o → BestBelow l n (16 * start + k) (best_at o l n start k)
  unfolding best_at
  sets o start zero h b = let q : 16 * start + 0 ≡ 16 * start = omega arith in rw q b
  sets o start (suc k) h b =
      let q : 16 * start + suc k ≡ suc (16 * start + k) = omega arith in
      rw q (step l n (16 * start + k) (best_at o l n start k) (sets o start k (omega arith) b) start k (omega arith) (omega arith))

  starts : (start : ℕ) → BestBelow l n (16 * start) (best_to l n start)
  unfolding best_to
  starts zero = inl (refl, λ j h. absurd (not-suc-le-zero h))
  starts (suc start) =
      let q : 16 * suc start ≡ 16 * start + 16 = omega arith in
      rw q (sets (best_to l n start) start 16 (omega arith) (starts start))

  pub best_law : Best l n (best l n)
  unfolding best
  best_law = starts l.blocks
