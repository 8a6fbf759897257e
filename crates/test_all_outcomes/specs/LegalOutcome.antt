-- What a legal outcome is, in words.
--   Legal     of an outcome with a start and a set; `legal_law` (LegalOutcomeLaws) joins it to the Bool `legal` (TriedOutcomes)
use Rattle.std.specs.Prelude.{◌≡◌, ℕ, ◌+◌, ◌<◌, true, false}
use Rattle.laws.specs.Arrays.{mark_at}
use Rattle.test_all_outcomes.specs.declared.layout.Layout.{Layout}
use Rattle.test_all_outcomes.specs.declared.outcomes.Set.{Set}
use Rattle.test_all_outcomes.specs.SmallLayouts.{most_updates, owns}
use Rattle.test_all_outcomes.specs.TriedOutcomes.{has_update}

pub record Legal (l : Layout) (n start : ℕ) (set : Set) : Type 0 where
  -- each update that shares is emptied
  pub sharing : (i : ℕ) → i < most_updates → mark_at l.shares i ≡ true → has_update set i ≡ true
  -- what is emptied is stored, and is not needed
  pub stored : (i : ℕ) → i < most_updates → has_update set i ≡ true → i < l.count
  pub unneeded : (i : ℕ) → i < most_updates → has_update set i ≡ true → mark_at l.needed i ≡ false
  -- the n blocks from the start on lie in the store
  pub inside : (k : ℕ) → k < n → start + k < l.blocks
  -- each update that has one of them is emptied
  pub cleared : (k i : ℕ) → k < n → i < most_updates → owns l i (start + k) ≡ true → has_update set i ≡ true
