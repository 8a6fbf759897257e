-- Laws of the judgement, and of two buffers with the same first n bytes.
--   written_none .. written_there    what `written_right` is as each of its tests comes out; in the code it is one expression
--   full_both, full_none             the two ways of `full_al`
--   refused_found .. refused_so      the same for `refused_right`
--   same_fronts                      both buffers reach so far: they have where their fronts are equal
--   same_short, same_other           one of them doesn't
--   same_differs                     byte i differs
--   same_more, same_done             the first i bytes are the same: so are the first i + 1, and at i = n the buffers have the same first n;
--                                    the code compares the two parts as slices, by `same_fronts`
use Rattle.std.specs.Prelude.{◌≡◌, ℕ, ◌+◌, ◌<◌, ◌≤◌, Bool, true, false, ◌&&◌, List, length, take, ◌==◌, ◌≢◌, nat_eq, nat_lt, slice_index, Option, Some, None}
use Rattle.std.specs.Cmp.Lexicographic.{pointwise}
use Rattle.std.proofs.Common.{sym, ap, ◌∙◌, refl, add-one, arith}
use Rattle.std.proofs.Math.Bool.{and-false}
use Rattle.std.proofs.lemmas.List.{get_or-take}
use Rattle.std.proofs.lemmas.Slice.Eq.{slice_eq-Decides}
use Rattle.std.proofs.lemmas.Bool.Decides.{Decides-eqb}
use borrow.Author.Tests.{eq-eqb, eqb-true, ne_eqb, lt-ltb, le-ltb}
use Rattle.laws.specs.Bools.{and_parts, bool_same}
use Rattle.laws.specs.Below.{all_below, all_at, all_stop, all_true}
use Rattle.laws.specs.Same.{same_take}
use Rattle.call_answers.specs.Codes.{storage_full, sharing_needed, no_run}
use Rattle.test_all_outcomes.specs.declared.layout.Layout.{Layout}
use Rattle.test_all_outcomes.specs.declared.outcomes.Outcome.{Outcome}
use Rattle.test_all_outcomes.specs.SmallLayouts.{both_marks}
use Rattle.test_all_outcomes.specs.SetBlocks.{set_blocks}
use Rattle.test_all_outcomes.specs.JudgedAnswers.{written_right, full_al, refused_right, same_at, same_first}

module _ (l : Layout) (best : Option Outcome) (start emptied blocks : ℕ) where
  pub written_none : best ≡ None → false ≡ written_right l best start emptied blocks
  unfolding written_right
  written_none h = rw h

  module _ (o : Outcome) (h : best ≡ Some o) where
    pub written_elsewhere : (start ≢ o.start) → false ≡ written_right l best start emptied blocks
    unfolding written_right
    written_elsewhere e = rw (h, ne_eqb start o.start e)

    pub written_miscounted : (emptied ≢ o.emptied) → false ≡ written_right l best start emptied blocks
    unfolding written_right
    written_miscounted e = rw (h, ne_eqb emptied o.emptied e, and-false (start == o.start))

    -- want is what a call answered
    pub written_there : start ≡ o.start → emptied ≡ o.emptied → (want : ℕ) → want ≡ set_blocks l o.set
        → (blocks == want) ≡ written_right l best start emptied blocks
    unfolding written_right
    written_there e f want g = rw (h, eq-eqb start o.start e, eq-eqb emptied o.emptied f, g)

-- r is what a call answered
module _ (l : Layout) (r : Bool) (e : r ≡ both_marks l) where
  pub full_both : r ≡ true → sharing_needed ≡ full_al l
  unfolding full_al
  full_both h = rw (← e, h)

  pub full_none : r ≡ false → no_run ≡ full_al l
  unfolding full_al
  full_none h = rw (← e, h)

module _ (l : Layout) (best : Option Outcome) (ah al status : ℕ) where
  pub refused_found : (o : Outcome) → best ≡ Some o → false ≡ refused_right l best ah al status
  unfolding refused_right
  refused_found o h = rw h

  pub refused_code : (ah ≢ storage_full) → false ≡ refused_right l best ah al status
  unfolding refused_right
  refused_code h = go best
    where
      go : (b : Option Outcome) → false ≡ refused_right l b ah al status
      go (Some o) = refl
      go None = rw (ne_eqb ah storage_full h)

  module _ (want : ℕ) (e : want ≡ full_al l) where
    pub refused_al : (al ≢ want) → false ≡ refused_right l best ah al status
    unfolding refused_right
    refused_al h = go best
      where
        go : (b : Option Outcome) → false ≡ refused_right l b ah al status
        go (Some o) = refl
        go None = rw (← e, ne_eqb al want h, and-false (ah == storage_full))

    pub refused_so : best ≡ None → ah ≡ storage_full → al ≡ want → (status == 0) ≡ refused_right l best ah al status
    unfolding refused_right
    refused_so f g h = rw (f, eq-eqb ah storage_full g, ← e, eq-eqb al want h)

module _ (a b : List ℕ) (n : ℕ) where
  pub same_short : length a < n → false ≡ same_first a b n
  unfolding same_first same_at
  same_short h = sym (all_stop (same_at a b) n (length a) h (rw (le-ltb (length a) (length a) (omega arith))))

  pub same_other : length b < n → false ≡ same_first a b n
  unfolding same_first same_at
  same_other h =
      sym (all_stop (same_at a b) n (length b) h (rw (le-ltb (length b) (length b) (omega arith), and-false (nat_lt (length b) (length a)))))

  module _ (h : n ≤ length a) (k : n ≤ length b) where
    there : take n a ≡ take n b → same_first a b n ≡ true
    unfolding same_first same_at
    there e =
        all_true (same_at a b) n
        (λ i m. rw (
          lt-ltb i (length a) (omega arith),
          lt-ltb i (length b) (omega arith),
          eq-eqb (slice_index a i) (slice_index b i) (sym (get_or-take n a i 0 m) ∙ ap (λ (s : List ℕ). slice_index s i) e ∙ get_or-take n b i 0 m),
        ))

    back : same_first a b n ≡ true → take n a ≡ take n b
    unfolding same_first same_at
    back e =
        same_take a b n h k
        (λ i m. eqb-true (slice_index a i) (slice_index b i) (and_parts (nat_lt i (length a) && nat_lt i (length b)) (slice_index a i == slice_index b i) (all_at (same_at a b) n i e m)).1)

    pub same_fronts : pointwise nat_eq (take n a) (take n b) ≡ same_first a b n
    same_fronts =
        let d = slice_eq-Decides Decides-eqb (take n a) (take n b) (pointwise nat_eq (take n a) (take n b)) refl in
        bool_same _ _ (λ t. there (d.0 t)) (λ t. d.1 (back t))

module _ (a b : List ℕ) (n i : ℕ) where
  pub same_differs : i < n → (slice_index a i ≢ slice_index b i) → false ≡ same_first a b n
  unfolding same_first same_at
  same_differs h k =
      sym (all_stop (same_at a b) n i h (rw (ne_eqb (slice_index a i) (slice_index b i) k, and-false (nat_lt i (length a) && nat_lt i (length b)))))

  pub same_more : all_below i (same_at a b) ≡ true → i < length a → i < length b → slice_index a i ≡ slice_index b i
      → all_below (i + 1) (same_at a b) ≡ true
  unfolding all_below same_at
  same_more h k m e = rw (add-one i, h, lt-ltb i (length a) k, lt-ltb i (length b) m, eq-eqb (slice_index a i) (slice_index b i) e)

  pub same_done : all_below i (same_at a b) ≡ true → i ≤ n → n ≤ i → true ≡ same_first a b n
  unfolding same_first
  same_done h k m = let q : i ≡ n = omega arith in sym (rw q at h)

pub ruleset fronts = (same_short, same_other, same_fronts)
