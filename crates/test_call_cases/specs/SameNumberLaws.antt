-- The loop over the numbers of two indexes, as `search` takes it.
--   same_none, same_more       none is compared, one more is the same
--   same_differs, same_done    the two ways out
use Rattle.std.specs.Prelude.{ℕ, ◌+◌, ◌/◌, ◌%◌, ◌<◌, ◌≤◌, ◌≡◌, true, false, List, [], get_or}
use Rattle.std.proofs.Math.Path.{sym}
use native.Mathlib.Omega.{arith}
use Rattle.std.proofs.Common.{eq-eqb, ne_eqb}
use Rattle.laws.specs.Below.{all_below, all_none, all_more, all_stop}
use Rattle.store_index.specs.IndexColumns.{word_at}
use Rattle.test_call_cases.specs.SameNumbers.{same_at, same_numbers}

-- word i, as the code reads it
abbrev word : List (List ℕ) → ℕ → ℕ
word x i = get_or (get_or x (i / 32) []) (i % 32) 0

module _ (x y : List (List ℕ)) where
  pub same_none : all_below 0 (same_at x y) ≡ true
  same_none = all_none (same_at x y)

  pub same_more : (i : ℕ) → all_below i (same_at x y) ≡ true → word x i ≡ word y i → all_below (i + 1) (same_at x y) ≡ true
  unfolding same_at word_at
  same_more i h e = all_more (same_at x y) i h (eq-eqb (word x i) (word y i) e)

  pub same_differs : (i : ℕ) → i < 128 → (word x i ≡ word y i → ⊥) → false ≡ same_numbers x y
  unfolding same_numbers same_at word_at
  same_differs i l e = sym (all_stop (same_at x y) 128 i l (ne_eqb (word x i) (word y i) e))

  pub same_done : (i : ℕ) → all_below i (same_at x y) ≡ true → i ≤ 128 → 128 ≤ i → true ≡ same_numbers x y
  unfolding same_numbers
  same_done i h l m = let q : i ≡ 128 = omega arith in sym (rw q at h)

pub ruleset samenesses = (same_none, same_more, same_differs, same_done)
