-- Laws of the outcomes, in the form in which a proof of the code takes them: r is what a call answered, z what the code returns.
--   any_four, all_four                        the four updates gone through by an iterator
--   free_inside .. free_other                 what `free_of` is as each of its tests comes out; in the code it is one expression
--   run_outside .. run_done                   a return at each test of `open_at`, and the loop over the run
--   allowed_unstored .. allowed_outside       the same for `allowed_at`
--   legal_no, legal_yes                       the same for `legal`
--   worse_no, worse_yes                       the same for `no_worse`, by whether there is an outcome
--   better_illegal, better_old, better_new    a return at each test of `better`
--   best_none .. best_done                    the loop over the sets
--   start_none .. start_done                  the loop over the starts
use Rattle.std.specs.Prelude.{◌≡◌, ℕ, ◌+◌, ◌<◌, ◌≤◌, Bool, true, false, ◌&&◌, ◌||◌, nat_le, Option, Some, None}
use Rattle.std.specs.List.{range_with_len, list_any, list_all}
use Rattle.std.proofs.Math.Path.{refl, sym}
use Rattle.std.proofs.Common.{add-one}
use native.Mathlib.Omega.{arith}
use borrow.Author.Tests.{lt-ltb, le-ltb}
use Rattle.laws.specs.Below.{all_below, any_below, all_none, all_stop}
use Rattle.laws.specs.Arrays.{mark_at}
use Rattle.test_all_outcomes.specs.declared.layout.Layout.{Layout}
use Rattle.test_all_outcomes.specs.declared.outcomes.Set.{Set}
use Rattle.test_all_outcomes.specs.declared.outcomes.Outcome.{Outcome}
use Rattle.test_all_outcomes.specs.SmallLayouts.{most_updates, owns}
use Rattle.test_all_outcomes.specs.TriedOutcomes.{numbered, size_of, free_of, is_open, open_at, run_open, allowed_at, allowed, legal, outcome, no_worse, better, best_at, best_to}

four_or : (a b c d : Bool) → a || (b || (c || (d || false))) ≡ false || a || b || c || d
four_or true b c d = refl
four_or false true c d = refl
four_or false false true d = refl
four_or false false false true = refl
four_or false false false false = refl

four_and : (a b c d : Bool) → a && (b && (c && (d && true))) ≡ true && a && b && c && d
four_and false b c d = refl
four_and true false c d = refl
four_and true true false d = refl
four_and true true true false = refl
four_and true true true true = refl

module _ (p : ℕ → Bool) where
  pub any_four : list_any p (range_with_len 0 4) ≡ any_below most_updates p
  unfolding any_below
  any_four = four_or (p 0) (p 1) (p 2) (p 3)

  pub all_four : list_all p (range_with_len 0 4) ≡ all_below most_updates p
  unfolding all_below
  all_four = four_and (p 0) (p 1) (p 2) (p 3)

module _ (l : Layout) (set : Set) (c i : ℕ) where
  pub free_inside : mark_at set.has i ≡ true → true ≡ free_of l set c i
  unfolding free_of
  free_inside h = rw h

  module _ (r : Bool) (e : r ≡ owns l i c) (h : mark_at set.has i ≡ false) where
    pub free_owned : r ≡ true → false ≡ free_of l set c i
    unfolding free_of
    free_owned k = rw (h, ← e, k)

    pub free_other : r ≡ false → true ≡ free_of l set c i
    unfolding free_of
    free_other k = rw (h, ← e, k)

module _ (l : Layout) (set : Set) (start n k : ℕ) where
  pub run_outside : k < n → l.blocks ≤ start + k → false ≡ run_open l set start n
  unfolding run_open open_at
  run_outside h b = sym (all_stop (open_at l set start) n k h (rw (le-ltb (start + k) l.blocks b)))

  module _ (r : Bool) (e : r ≡ is_open l set (start + k)) (b : start + k < l.blocks) where
    pub run_shut : k < n → r ≡ false → false ≡ run_open l set start n
    unfolding run_open open_at
    run_shut h f = sym (all_stop (open_at l set start) n k h (rw (lt-ltb (start + k) l.blocks b, ← e, f)))

    pub run_more : all_below k (open_at l set start) ≡ true → r ≡ true → all_below (k + 1) (open_at l set start) ≡ true
    unfolding all_below open_at
    run_more h f = rw (add-one k, h, lt-ltb (start + k) l.blocks b, ← e, f)

  pub run_done : all_below k (open_at l set start) ≡ true → k ≤ n → n ≤ k → true ≡ run_open l set start n
  unfolding run_open
  run_done h a b = let q : k ≡ n = omega arith in sym (rw q at h)

pub ruleset opened = (all_none, run_outside, run_shut, run_more, run_done)

module _ (l : Layout) (set : Set) (i : ℕ) where
  module _ (h : mark_at set.has i ≡ true) where
    pub allowed_unstored : l.count ≤ i → false ≡ allowed_at l set i
    unfolding allowed_at
    allowed_unstored k = rw (h, le-ltb i l.count k)

    pub allowed_needed : i < l.count → mark_at l.needed i ≡ true → false ≡ allowed_at l set i
    unfolding allowed_at
    allowed_needed k e = rw (h, lt-ltb i l.count k, e)

    pub allowed_inside : i < l.count → mark_at l.needed i ≡ false → true ≡ allowed_at l set i
    unfolding allowed_at
    allowed_inside k e = rw (h, lt-ltb i l.count k, e)

  module _ (h : mark_at set.has i ≡ false) where
    pub allowed_sharing : mark_at l.shares i ≡ true → false ≡ allowed_at l set i
    unfolding allowed_at
    allowed_sharing e = rw (h, e)

    pub allowed_outside : mark_at l.shares i ≡ false → true ≡ allowed_at l set i
    unfolding allowed_at
    allowed_outside e = rw (h, e)

module _ (l : Layout) (n start : ℕ) (set : Set) (r : Bool) (e : r ≡ allowed l set) where
  pub legal_no : r ≡ false → false ≡ legal l n start set
  unfolding legal
  legal_no h = rw (← e, h)

  pub legal_yes : (z : Bool) → r ≡ true → z ≡ run_open l set start n → z ≡ legal l n start set
  unfolding legal
  legal_yes z h f = rw (← e, h) f

module _ (old : Option Outcome) (emptied : ℕ) where
  pub worse_no : old ≡ None → false ≡ no_worse old emptied
  unfolding no_worse
  worse_no h = rw h

  pub worse_yes : (o : Outcome) → old ≡ Some o → nat_le o.emptied emptied ≡ no_worse old emptied
  unfolding no_worse
  worse_yes o h = rw h

module _ (old : Option Outcome) (l : Layout) (n start : ℕ) (set : Set) (r : Bool) (e : r ≡ legal l n start set) where
  pub better_illegal : r ≡ false → old ≡ better old l n start set
  unfolding better
  better_illegal h = rw (← e, h)

  module _ (h : r ≡ true) (emptied : ℕ) (f : emptied ≡ size_of set) (t : Bool) (g : t ≡ no_worse old emptied) where
    pub better_old : t ≡ true → old ≡ better old l n start set
    unfolding better
    better_old k = rw (← e, h, ← f, ← g, k)

    pub better_new : t ≡ false → Some (outcome start emptied set) ≡ better old l n start set
    unfolding better
    better_new k = rw (← e, h, ← f, ← g, k)

-- the loop over the sets at a start: o is the best so far
module _ (old : Option Outcome) (l : Layout) (n start : ℕ) where
  pub best_none : old ≡ best_at old l n start 0
  unfolding best_at
  best_none = refl

  pub best_more : (o r : Option Outcome) (set : Set) (k : ℕ) → o ≡ best_at old l n start k → set ≡ numbered k → r ≡ better o l n start set
      → r ≡ best_at old l n start (k + 1)
  unfolding best_at
  best_more o r set k e f h = rw (add-one k, ← e, ← f) h

  pub best_done : (o : Option Outcome) (k : ℕ) → o ≡ best_at old l n start k → k ≤ 16 → 16 ≤ k → o ≡ best_at old l n start 16
  best_done o k e a b = let q : k ≡ 16 = omega arith in rw q at e

pub ruleset sets = (best_none, best_more, best_done)

-- the loop over the starts
module _ (l : Layout) (n : ℕ) where
  pub start_none : None ≡ best_to l n 0
  unfolding best_to
  start_none = refl

  pub start_more : (o r : Option Outcome) (start : ℕ) → o ≡ best_to l n start → r ≡ best_at o l n start 16 → r ≡ best_to l n (start + 1)
  unfolding best_to
  start_more o r start e h = rw (add-one start, ← e) h

  pub start_done : (o : Option Outcome) (start : ℕ) → o ≡ best_to l n start → start ≤ l.blocks → l.blocks ≤ start → o ≡ best_to l n l.blocks
  start_done o start e a b = let q : start ≡ l.blocks = omega arith in rw q at e

pub ruleset starts = (start_none, start_more, start_done)
