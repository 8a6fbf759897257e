-- Check 6 of the write in words (document 01, "The calls", 1).
--   Outdated    a stored update covers a processor that the candidate covers, and its revision is equal or greater
use Rattle.std.specs.Prelude.{ℕ, ◌<◌, ◌≤◌, ◌≡◌, true, List}
use Rattle.update_header.specs.Fields.{revision}
use Rattle.update_sharing.specs.Shares.{Shares}
use Rattle.store_blocks.specs.Blocks.{from_block, block_count}
use Rattle.store_directory.specs.Scan.{first}

pub record Outdated (old cand : List ℕ) : Type 0 where
  -- the update begins at this block
  pub block : ℕ
  pub below : block < block_count old
  pub begins : first old block ≡ true
  -- there is a processor that both cover, listed or not
  pub shared : Shares (from_block old block) cand
  -- its revision is equal or greater
  pub not_older : revision cand ≤ revision (from_block old block)
