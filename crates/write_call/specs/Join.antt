-- Outcomes over first blocks, as the demand has them, and over numbers of updates, as the choice of a run has them.
--   by_number        a set of first blocks as a set of numbers
use Rattle.std.specs.Prelude.{ℕ, Bool, List}
use Rattle.store_directory.specs.Scan.{directory}
use Rattle.store_directory.specs.DirectoryEntries.{start_of}

-- update number i begins at a block of the set e
unfoldable pub by_number : List ℕ → (ℕ → Bool) → ℕ → Bool
by_number old e i = e (start_of (directory old) i)
