-- What a valid store is, in the words of document 01, "The store". Nothing here says how it is read.
--   Owned          block c belongs to the update that begins at block b
--   Layout         at each block of the set u a valid update begins; they lie in order and apart; every other block is unused
--   Valid          N from 1 to 32 blocks, such a layout, and no processor covered by two of its updates
--   ValidStore     there are such N and u
use Rattle.std.specs.Prelude.{ℕ, ◌+◌, ◌*◌, ◌<◌, ◌≤◌, ◌≡◌, Bool, true, List, ◌⊎◌, length}
use Rattle.update_sharing.specs.Shares.{Shares}
use Rattle.store_blocks.specs.Blocks.{from_block}
use Rattle.store_directory.specs.Scan.{slot_at, size_at, single}
use Rattle.store_blocks.specs.declared.slot.Slot.TheVariants.{Update}

pub record Owned (s : List ℕ) (u : ℕ → Bool) (b c : ℕ) : Type 0 where
  pub at : u b ≡ true
  pub from : b ≤ c
  pub upto : c < b + size_at s b

pub record Layout (s : List ℕ) (n : ℕ) (u : ℕ → Bool) : Type 0 where
  -- a valid update begins at each block of u, and fits in the remaining blocks
  pub stored : (b : ℕ) → b < n → u b ≡ true → (k : ℕ) × (slot_at s b ≡ Update k)
  -- none begins before the one before it has ended
  pub order : (b c : ℕ) → b < c → c < n → u b ≡ true → u c ≡ true → b + size_at s b ≤ c
  -- every block is unused or belongs to one of them
  pub full : (c : ℕ) → c < n → (single (slot_at s c) ≡ true) ⊎ ((b : ℕ) × Owned s u b c)

pub record Valid (s : List ℕ) (n : ℕ) (u : ℕ → Bool) : Type 0 where
  pub long : length s ≡ n * 2048
  pub some : 1 ≤ n
  pub few : n ≤ 32
  pub layout : Layout s n u
  -- no two stored updates cover a common processor
  pub apart : (b c : ℕ) → c < b → b < n → u b ≡ true → u c ≡ true → Shares (from_block s b) (from_block s c) → ⊥

abbrev pub ValidStore : List ℕ → Type 0
ValidStore s = (n : ℕ) × (u : ℕ → Bool) × Valid s n u
