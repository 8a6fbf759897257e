-- Outcomes, in document 01's words ("The words of demand 3"). Nothing here says how a run is looked for.
--   Legal           an outcome, a start block and a set e of first blocks of stored updates, is legal
--   stored_in       a stored update that it empties begins at block b
--   emptied_count   the number of updates it empties
use Rattle.std.specs.Prelude.{ℕ, ◌+◌, ◌<◌, ◌≤◌, ◌≡◌, Bool, true, ◌&&◌, List, ◌⊎◌}
use Rattle.laws.specs.Count.{count_below}
use Rattle.update_sizes.specs.Sizes.{blocks_of}
use Rattle.update_sharing.specs.Shares.{Shares}
use Rattle.store_blocks.specs.Blocks.{from_block, block_count}
use Rattle.store_directory.specs.Scan.{first}
use Rattle.store_directory.specs.Kind.{kind_at}
use Rattle.store_directory.specs.Valid.{Owned}
use Rattle.store_directory.specs.declared.kind.Kind.TheVariants.{Unused}
use Rattle.processor_list.specs.Processors.{ProcessorList, Needed}

-- old is the store before the call, and cand the candidate, of t bytes
pub record Legal (old : List ℕ) (list : ProcessorList) (cand : List ℕ) (t start : ℕ) (e : ℕ → Bool) : Type 0 where
  -- its run, ceiling(T / 2,048) consecutive blocks from the start, lies below N
  pub ends : start + blocks_of t ≤ block_count old
  -- each block of the run was unused or belongs to an update it empties
  pub free : (c : ℕ) → start ≤ c → c < start + blocks_of t → (kind_at old c ≡ Unused) ⊎ ((b : ℕ) × (e b ≡ true) × Owned old (first old) b c)
  -- it empties no update that covers a listed processor the candidate doesn't cover
  pub spares : (b : ℕ) → b < block_count old → first old b ≡ true → Needed list cand (from_block old b) → e b ≡ true → ⊥
  -- it empties every update that covers a processor the candidate covers, listed or not
  pub frees : (b : ℕ) → b < block_count old → first old b ≡ true → Shares (from_block old b) cand → e b ≡ true

-- a stored update of the set e begins at block b
unfoldable pub stored_in : List ℕ → (ℕ → Bool) → ℕ → Bool
stored_in old e b = first old b && e b

unfoldable pub emptied_count : List ℕ → (ℕ → Bool) → ℕ
emptied_count old e = count_below (block_count old) (stored_in old e)
