-- The Bool says what the words do.
--   legal_law     an outcome is legal
use Rattle.std.specs.Prelude.{◌≡◌, ℕ, ◌+◌, ◌<◌, Bool, true, false, cond, not, ◌&&◌, ◌||◌, ◌↔◌, nat_lt, refl}
use Rattle.std.proofs.Common.{sym, ◌∙◌, true≢false}
use borrow.Author.Tests.{ltb-true, lt-ltb, not-true}
use Rattle.laws.specs.Bools.{and_parts, and_made, no_true}
use Rattle.laws.specs.Below.{all_at, all_true}
use Rattle.laws.specs.Arrays.{mark_at}
use Rattle.test_all_outcomes.specs.declared.layout.Layout.{Layout}
use Rattle.test_all_outcomes.specs.declared.outcomes.Set.{Set}
use Rattle.test_all_outcomes.specs.SmallLayouts.{most_updates, owns}
use Rattle.test_all_outcomes.specs.TriedOutcomes.{has_update, free_of, is_open, open_at, run_open, allowed_at, allowed, legal}
use Rattle.test_all_outcomes.specs.LegalOutcome.{Legal}

-- one update: it is emptied, shares, is stored, is needed
allowed_parts : (has shares stored needed : Bool) → cond has (stored && not needed) (not shares) ≡ true
    → (shares ≡ true → has ≡ true) × (has ≡ true → (stored ≡ true) × (needed ≡ false))
allowed_parts true shares stored needed h =
    let p = and_parts stored (not needed) h in
    (λ q. refl, λ q. (p.0, not-true needed p.1))
allowed_parts false shares stored needed h = (λ q. absurd (true≢false (sym q ∙ not-true shares h)), λ q. absurd (true≢false (sym q)))

allowed_made : (has shares stored needed : Bool) → (shares ≡ true → has ≡ true) → (has ≡ true → (stored ≡ true) × (needed ≡ false))
    → cond has (stored && not needed) (not shares) ≡ true
allowed_made true shares stored needed f g = let p = g refl in rw (p.0, p.1)
allowed_made false shares stored needed f g = rw (no_true shares (λ q. true≢false (sym (f q))))

-- one update against a block: it is emptied, has the block
free_part : (has owned : Bool) → has || not owned ≡ true → owned ≡ true → has ≡ true
free_part true owned h q = refl
free_part false owned h q = absurd (true≢false (sym q ∙ not-true owned h))

free_made : (has owned : Bool) → (owned ≡ true → has ≡ true) → has || not owned ≡ true
free_made true owned f = refl
free_made false owned f = rw (no_true owned (λ q. true≢false (sym (f q))))

module _ (l : Layout) (n start : ℕ) (set : Set) where
  each_update : allowed l set ≡ true → (i : ℕ) → i < most_updates
      → (mark_at l.shares i ≡ true → has_update set i ≡ true)
      × (has_update set i ≡ true → (nat_lt i l.count ≡ true) × (mark_at l.needed i ≡ false))
  unfolding allowed allowed_at
  each_update h i m =
      allowed_parts (has_update set i) (mark_at l.shares i) (nat_lt i l.count) (mark_at l.needed i)
      (all_at (allowed_at l set) most_updates i h m)

  each_block : run_open l set start n ≡ true → (k : ℕ) → k < n → (nat_lt (start + k) l.blocks ≡ true) × (is_open l set (start + k) ≡ true)
  unfolding run_open open_at
  each_block h k m = and_parts (nat_lt (start + k) l.blocks) (is_open l set (start + k)) (all_at (open_at l set start) n k h m)

  each_owner : (c : ℕ) → is_open l set c ≡ true → (i : ℕ) → i < most_updates → owns l i c ≡ true → has_update set i ≡ true
  unfolding is_open free_of
  each_owner c h i m = free_part (has_update set i) (owns l i c) (all_at (free_of l set c) most_updates i h m)

  from : legal l n start set ≡ true → Legal l n start set
  unfolding legal
  from h =
      let p = and_parts (allowed l set) (run_open l set start n) h in
      record {
        sharing = λ i m. (each_update p.0 i m).0;
        stored = λ i m q. ltb-true i l.count ((each_update p.0 i m).1 q).0;
        unneeded = λ i m q. ((each_update p.0 i m).1 q).1;
        inside = λ k m. ltb-true (start + k) l.blocks (each_block p.1 k m).0;
        cleared = λ k i m. each_owner (start + k) (each_block p.1 k m).1 i;
      }

  to : Legal l n start set → legal l n start set ≡ true
  unfolding legal allowed allowed_at run_open open_at is_open free_of
  to w =
      and_made
      (all_true (allowed_at l set) most_updates
      (λ i m. allowed_made (has_update set i) (mark_at l.shares i) (nat_lt i l.count) (mark_at l.needed i) (w.sharing i m)
      (λ q. (lt-ltb i l.count (w.stored i m q), w.unneeded i m q))))
      (all_true (open_at l set start) n
      (λ k m. and_made (lt-ltb (start + k) l.blocks (w.inside k m))
      (all_true (free_of l set (start + k)) most_updates (λ i o. free_made (has_update set i) (owns l i (start + k)) (w.cleared k i m o)))))

  pub legal_law : (legal l n start set ≡ true) ↔ Legal l n start set
  legal_law = (from, to)
