-- The entries of a directory.
--   start_of, size_of    first block and size of entry i
--   HavePairs            the updates that begin at the first n blocks of a list have passed checks 2 and 3, so they have pairs
use Rattle.std.specs.Prelude.{ℕ, ◌<◌, List, get_or}
use Rattle.update_coverage.specs.Covers.{pair_count}
use Rattle.store_blocks.specs.Blocks.{from_block}
use Rattle.store_directory.specs.declared.Directory.{Directory}

abbrev pub start_of : Directory → ℕ → ℕ
start_of d i = get_or d.starts i 0

abbrev pub size_of : Directory → ℕ → ℕ
size_of d i = get_or d.sizes i 0

abbrev pub HavePairs : List ℕ → List ℕ → ℕ → Type 0
HavePairs s xs n = (i : ℕ) → i < n → 0 < pair_count (from_block s (get_or xs i 0))
