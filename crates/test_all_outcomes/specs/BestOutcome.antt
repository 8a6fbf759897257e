-- What the best of all outcomes is, in words. Outcome m has start m / 16 and set m % 16: they are numbered by starts and then by sets.
--   legal_at       outcome m is legal
--   emptied_by     how many updates it empties
--   outcome_at     it, as the program holds it
--   FirstFewest    outcome m is the first of the legal ones below c that empty the fewest
--   BestBelow      o is that one, or none where there is no legal one
--   Best           o is the best of the outcomes with a start in the store
use Rattle.std.specs.Prelude.{◌≡◌, ℕ, ◌*◌, ◌/◌, ◌%◌, ◌<◌, ◌≤◌, Bool, true, false, ◌⊎◌, Option, Some, None}
use Rattle.test_all_outcomes.specs.declared.layout.Layout.{Layout}
use Rattle.test_all_outcomes.specs.declared.outcomes.Outcome.{Outcome}
use Rattle.test_all_outcomes.specs.TriedOutcomes.{numbered, size_of, legal, outcome}

abbrev pub legal_at : Layout → ℕ → ℕ → Bool
legal_at l n m = legal l n (m / 16) (numbered (m % 16))

abbrev pub emptied_by : ℕ → ℕ
emptied_by m = size_of (numbered (m % 16))

abbrev pub outcome_at : ℕ → Outcome
outcome_at m = outcome (m / 16) (emptied_by m) (numbered (m % 16))

pub record FirstFewest (l : Layout) (n c m : ℕ) : Type 0 where
  pub below : m < c
  pub allowed : legal_at l n m ≡ true
  pub fewest : (j : ℕ) → j < c → legal_at l n j ≡ true → emptied_by m ≤ emptied_by j
  pub first : (j : ℕ) → j < m → legal_at l n j ≡ true → emptied_by m < emptied_by j

abbrev pub BestBelow : Layout → ℕ → ℕ → Option Outcome → Type 0
BestBelow l n c o =
    ((o ≡ None) × ((j : ℕ) → j < c → legal_at l n j ≡ false)) ⊎ ((m : ℕ) × (o ≡ Some (outcome_at m)) × FirstFewest l n c m)

abbrev pub Best : Layout → ℕ → Option Outcome → Type 0
Best l n o = BestBelow l n (16 * l.blocks) o
