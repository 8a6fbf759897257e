-- What a plan to copy blocks may rely on.
--   Copies       k blocks from block b on fit into m bytes, are there, and are at most 16
--   Copyable     so it is with the blocks of a plan
use Rattle.std.specs.Prelude.{ℕ, ◌*◌, ◌≤◌, ◌≡◌, Ok, List, length}
use Rattle.store_blocks.specs.Blocks.{from_block}
use Rattle.call_reads.specs.Read.{ReadPlan}

pub record Copies (s : List ℕ) (b m k : ℕ) : Type 0 where
  pub fit : k * 2048 ≤ m
  pub there : k * 2048 ≤ length (from_block s b)
  pub few : k ≤ 16

unfoldable pub Copyable : List ℕ → ℕ → ℕ → ReadPlan → Type 0
Copyable s b m p = (k : ℕ) → p ≡ Ok k → Copies s b m k
