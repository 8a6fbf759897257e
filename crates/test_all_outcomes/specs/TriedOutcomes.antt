-- The outcomes of a write to a small store: a start for the candidate, and a set of stored updates to be emptied.
--   odd            the last bit is set
--   numbered       set k of the sixteen: update i is in it if bit i of k is set
--   has_update     update i is in a set
--   size_of        how many are
--   free_of        block c belongs to no update i outside the set
--   is_open        block c is unused or belongs to updates of the set alone
--   open_at        block k of the run from `start` lies in the store and is open
--   run_open       each of the n blocks of the run does
--   allowed_at     update i in the set is stored and is not needed; outside the set it doesn't share
--   allowed        so it is with each: every sharing update is in the set, no needed one is, and only stored ones are
--   legal          the set is allowed, and the run is open; `Legal` (LegalOutcome) says it in words
--   outcome        an outcome by its fields, in the order of the source
--   no_worse       an outcome was found, and empties no more than `emptied`
--   better         the new outcome if it is legal and empties fewer than the one found so far, which else stays
--   best_at        the best so far, after the first k sets at a start
--   best_to        the best of the starts below `start`
--   best           the best of all: the first of the legal outcomes that empty the fewest, by starts and then by
--                  sets, or none where none is legal; `Best` (BestOutcome) says it in words
use Rattle.std.specs.Prelude.{ℕ, zero, suc, ◌+◌, ◌/◌, ◌%◌, Bool, false, cond, not, ◌&&◌, ◌||◌, [], ◌∷◌, ◌==◌, nat_le, nat_lt, Option, Some, None}
use Rattle.laws.specs.Below.{all_below}
use Rattle.laws.specs.Count.{count_below}
use Rattle.laws.specs.Arrays.{mark_at}
use Rattle.test_all_outcomes.specs.declared.layout.Layout.{Layout}
use Rattle.test_all_outcomes.specs.declared.outcomes.Set.{Set}
use Rattle.test_all_outcomes.specs.declared.outcomes.Outcome.{Outcome}
use Rattle.test_all_outcomes.specs.SmallLayouts.{most_updates, owns}

abbrev pub odd : ℕ → Bool
odd k = k % 2 == 1

unfoldable pub numbered : ℕ → Set
numbered k = record { has = odd k ∷ odd (k / 2) ∷ odd (k / 4) ∷ odd (k / 8) ∷ [] }

abbrev pub has_update : Set → ℕ → Bool
has_update set = mark_at set.has

unfoldable pub size_of : Set → ℕ
size_of set = count_below most_updates (has_update set)

unfoldable pub free_of : Layout → Set → ℕ → ℕ → Bool
free_of l set c i = has_update set i || not (owns l i c)

unfoldable pub is_open : Layout → Set → ℕ → Bool
is_open l set c = all_below most_updates (free_of l set c)

unfoldable pub open_at : Layout → Set → ℕ → ℕ → Bool
open_at l set start k = nat_lt (start + k) l.blocks && is_open l set (start + k)

unfoldable pub run_open : Layout → Set → ℕ → ℕ → Bool
run_open l set start n = all_below n (open_at l set start)

unfoldable pub allowed_at : Layout → Set → ℕ → Bool
allowed_at l set i = cond (has_update set i) (nat_lt i l.count && not (mark_at l.needed i)) (not (mark_at l.shares i))

unfoldable pub allowed : Layout → Set → Bool
allowed l set = all_below most_updates (allowed_at l set)

unfoldable pub legal : Layout → ℕ → ℕ → Set → Bool
legal l n start set = allowed l set && run_open l set start n

abbrev pub outcome : ℕ → ℕ → Set → Outcome
outcome start emptied set = record { start = start; emptied = emptied; set = set }

unfoldable pub no_worse : Option Outcome → ℕ → Bool
no_worse None emptied = false
no_worse (Some old) emptied = nat_le old.emptied emptied

unfoldable pub better : Option Outcome → Layout → ℕ → ℕ → Set → Option Outcome
better old l n start set = cond (legal l n start set && not (no_worse old (size_of set))) (Some (outcome start (size_of set) set)) old

unfoldable pub best_at : Option Outcome → Layout → ℕ → ℕ → ℕ → Option Outcome
best_at old l n start zero = old
best_at old l n start (suc k) = better (best_at old l n start k) l n start (numbered k)

unfoldable pub best_to : Layout → ℕ → ℕ → Option Outcome
best_to l n zero = None
best_to l n (suc start) = best_at (best_to l n start) l n start 16

unfoldable pub best : Layout → ℕ → Option Outcome
best l n = best_to l n l.blocks
