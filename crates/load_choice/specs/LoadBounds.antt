-- Where the update of a load choice lies in the store.
--   StartBelow32   the chosen update begins below block 32
--   Choice         an update of a valid store begins at the chosen start
use Rattle.std.specs.Prelude.{ℕ, ◌<◌, ◌≡◌, true, List}
use Rattle.store_blocks.specs.Blocks.{block_count}
use Rattle.store_directory.specs.Scan.{first, store_ok}
use Rattle.call_answers.specs.Choice.{LoadChoice, Chosen}

unfoldable pub StartBelow32 : LoadChoice → Type 0
StartBelow32 c = (b r : ℕ) → c ≡ Chosen b r → b < 32

-- a choice, taken apart: the store is valid, and an update begins at the start
pub record Choice (s : List ℕ) (b : ℕ) : Type 0 where
  pub ok : store_ok s ≡ true
  pub below : b < block_count s
  pub begun : first s b ≡ true
