-- The marks of the updates of any lists, whatever the count.
--   both_listed      one has both marks: the definition's answer is the scan of the two lists
--   shared_listed    how many share: the definition's answer is the count of one list
use Rattle.std.specs.Prelude.{ℕ, ◌≡◌, Bool, List}
use Rattle.laws.specs.Below.{any_below}
use Rattle.laws.specs.Arrays.{mark_at}
use Rattle.laws.specs.Count.{count_below}
use Rattle.write_marks.specs.Against.{both_marks}
use Rattle.write_marks.specs.StoredMarks.{updates_of, both_at}

module _ (starts sizes : List ℕ) (shares needed : List Bool) (count : ℕ) where
  pub both_listed : (t : Bool) → t ≡ any_below count (both_at shares needed) → t ≡ any_below (updates_of starts sizes shares needed count).count (both_marks (updates_of starts sizes shares needed count))
  unfolding both_marks both_at mark_at
  both_listed t e = e

  pub shared_listed : (v : ℕ) → v ≡ count_below count (mark_at shares) → v ≡ count_below (updates_of starts sizes shares needed count).count (updates_of starts sizes shares needed count).shares
  unfolding mark_at
  shared_listed v e = e
