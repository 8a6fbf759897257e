-- What the scan for a common processor keeps of the updates that it has passed, and its turns.
--   no_pairs, pairs_at, Kept  an array holds the readings of the first i updates' headers
use Rattle.std.specs.Prelude.{ℕ, List, get_or}
use Rattle.laws.specs.Arrays.{Filled}
use Rattle.update_coverage.specs.Covers.{pairs_of}
use Rattle.update_coverage.specs.declared.Pairs.{Pairs}
use Rattle.store_blocks.specs.Blocks.{from_block}

abbrev pub no_pairs : Pairs
no_pairs = record { «data» = 0; count = 0; signature = 0; platforms = 0 }

-- the reading of the update that begins at number k of xs
unfoldable pub pairs_at : List ℕ → List ℕ → ℕ → Pairs
pairs_at s xs k = pairs_of (from_block s (get_or xs k 0))

abbrev pub Kept : List ℕ → List ℕ → ℕ → List Pairs → Type 0
Kept s xs i held = Filled no_pairs 32 (pairs_at s xs) i held
