-- "Old stores stay valid" (document 02, Three).
--   StaysValid     what holds today of a store that was valid
use Prim.Native.Nat.{ℕ, ◌<◌}
use Rattle.std.specs.Prelude.{◌≡◌, List}
use Rattle.std.proofs.Math.Bool.{true}
use Rattle.update_coverage.specs.Covers.{covers}
use Rattle.store_blocks.specs.Blocks.{from_block, block_count}
use Rattle.store_directory.specs.Scan.{first, store_ok, directory}
use Rattle.store_directory.specs.Kind.{kind_at}
use Rattle.store_directory.specs.OldStores.{old_covers, old_first, old_directory, old_kind_at}

-- a store that was valid is valid, with the same directory, the same kinds of blocks, and the same processors covered by each of its updates
pub record StaysValid (s : List ℕ) : Type 0 where
  pub valid : store_ok s ≡ true
  pub entries : directory s ≡ old_directory s
  pub kinds : (b : ℕ) → b < block_count s → kind_at s b ≡ old_kind_at s b
  pub firsts : (b : ℕ) → b < block_count s → first s b ≡ old_first s b
  pub covered : (b : ℕ) → b < block_count s → first s b ≡ true → (x p : ℕ) → covers (from_block s b) x p ≡ old_covers (from_block s b) x p
