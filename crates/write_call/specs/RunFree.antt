-- Check 8 of the write in words (document 01, "The calls", 1).
--   RunFree    the run from the start lies in the store, and each of its blocks is unused, or belongs to a stored update that shares a
--              processor with the candidate, or to one that covers no listed processor
use Rattle.std.specs.Prelude.{ℕ, ◌+◌, ◌<◌, ◌≤◌, ◌≡◌, false, List, ◌⊎◌}
use Rattle.update_header.specs.Fields.{total_size}
use Rattle.update_sizes.specs.Sizes.{blocks_of}
use Rattle.update_sharing.specs.Shares.{Shares}
use Rattle.store_blocks.specs.Blocks.{from_block, block_count}
use Rattle.store_directory.specs.Scan.{first}
use Rattle.store_directory.specs.Kind.{kind_at}
use Rattle.store_directory.specs.Valid.{Owned}
use Rattle.store_directory.specs.declared.kind.Kind.TheVariants.{Unused}
use Rattle.processor_list.specs.Processors.{ProcessorList, covers_one}

pub record RunFree (old : List ℕ) (list : ProcessorList) (cand : List ℕ) (start : ℕ) : Type 0 where
  pub ends : start + blocks_of (total_size cand) ≤ block_count old
  pub free : (c : ℕ) → start ≤ c → c < start + blocks_of (total_size cand)
      → (kind_at old c ≡ Unused)
      ⊎ ((b : ℕ) × Owned old (first old) b c × (Shares (from_block old b) cand ⊎ (covers_one list (from_block old b) ≡ false)))
