-- The 128 numbers of two indexes.
--   same_at         number i is the same
--   same_numbers    each is
use Rattle.std.specs.Prelude.{ℕ, Bool, List, eqb}
use Rattle.laws.specs.Below.{all_below}
use Rattle.store_index.specs.IndexColumns.{word_at}

unfoldable pub same_at : List (List ℕ) → List (List ℕ) → ℕ → Bool
same_at x y i = eqb (word_at x i) (word_at y i)

unfoldable pub same_numbers : List (List ℕ) → List (List ℕ) → Bool
same_numbers x y = all_below 128 (same_at x y)
