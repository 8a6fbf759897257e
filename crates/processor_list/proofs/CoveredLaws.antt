-- Which listed processors an update covers, kept in an array of eight beside the list.
--   one_is, needed_by_is    from right marks to the definitions
--   unmarked_no .. unmarked_marked    the test of a mark
use Rattle.std.specs.Prelude.{ℕ, ◌≡◌, Bool, true, false, not, ◌&&◌, List, length}
use Rattle.std.proofs.Common.{◌∙◌}
use Rattle.laws.specs.Below.{any_below, any_cong}
use Rattle.laws.specs.Arrays.{mark_at}
use Rattle.processor_list.specs.Processors.{ProcessorList, covers_listed, covers_one, needed_for, is_needed}
use Rattle.processor_list.specs.Covered.{needed_by_marks, Covered}

module _ (list : ProcessorList) (cand : List ℕ) (marks : List Bool) (right : Covered list cand marks) where
  pub one_is : (r : Bool) → r ≡ any_below (length list.signatures) (mark_at marks) → r ≡ covers_one list cand
  unfolding covers_one mark_at
  one_is r e = e ∙ any_cong (mark_at marks) (covers_listed list cand) (length list.signatures) (λ k l. right.each k l)

  pub needed_by_is : (u : List ℕ) (r : Bool) → r ≡ any_below (length list.signatures) (needed_by_marks list marks u) → r ≡ is_needed list cand u
  unfolding is_needed needed_for needed_by_marks mark_at
  needed_by_is u r e = e ∙ any_cong (needed_by_marks list marks u) (needed_for list cand u) (length list.signatures) (λ k l. rw (right.each k l))

-- r is what a call answered, m a mark
module _ (r a m : Bool) (e : r ≡ a) where
  pub unmarked_no : r ≡ false → false ≡ a && not m
  unmarked_no h = rw (← e, h)

  pub unmarked_yes : r ≡ true → m ≡ false → true ≡ a && not m
  unmarked_yes h k = rw (← e, h, k)

  pub unmarked_marked : r ≡ true → m ≡ true → false ≡ a && not m
  unmarked_marked h k = rw (← e, h, k)
