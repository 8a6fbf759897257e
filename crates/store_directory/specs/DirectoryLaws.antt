-- What the directory of a valid store lists: the laws by which the layers above use it.
--   Listing      each entry is a stored update, in order; each stored update is an entry
use Rattle.std.specs.Prelude.{ℕ, ◌+◌, ◌<◌, ◌≤◌, ◌≡◌, List}
use Rattle.std.proofs.Math.Bool.{true}
use Rattle.store_blocks.specs.Blocks.{block_count}
use Rattle.store_directory.specs.Scan.{size_at, first}
use Rattle.store_directory.specs.declared.Directory.{Directory}
use Rattle.store_directory.specs.DirectoryEntries.{start_of, size_of}

pub record Listing (s : List ℕ) (d : Directory) : Type 0 where
  pub few : d.count ≤ 32
  pub begin : (i : ℕ) → i < d.count → first s (start_of d i) ≡ true
  pub sized : (i : ℕ) → i < d.count → size_of d i ≡ size_at s (start_of d i)
  pub some : (i : ℕ) → i < d.count → 1 ≤ size_of d i
  pub ends : (i : ℕ) → i < d.count → start_of d i + size_of d i ≤ block_count s
  pub order : (i j : ℕ) → j < i → i < d.count → start_of d j + size_of d j ≤ start_of d i
  pub every : (b : ℕ) → b < block_count s → first s b ≡ true → (i : ℕ) × (i < d.count) × (start_of d i ≡ b)
