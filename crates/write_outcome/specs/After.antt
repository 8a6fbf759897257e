-- What a write leaves where its outcome is legal (document 01, "The words of demand 3").
--   kept      the update at b stays
--   after     the first blocks afterwards: those of the kept updates, and the start
--   After     the new store is valid; its updates are the kept ones, at their places with their old bytes, and the candidate at the start
use Rattle.std.specs.Prelude.{ℕ, ◌*◌, ◌<◌, ◌≡◌, Bool, true, not, ◌&&◌, ◌||◌, List, length, eqb}
use Rattle.laws.specs.Same.{Same}
use Rattle.update_sizes.specs.Sizes.{blocks_of}
use Rattle.update_verdict.specs.Verdict.{Good, verdict}
use Rattle.update_coverage.specs.Covers.{covers}
use Rattle.store_blocks.specs.Blocks.{from_block, block_count}
use Rattle.store_directory.specs.Scan.{slot_at, first, store_ok}
use Rattle.store_blocks.specs.declared.slot.Slot.TheVariants.{Update}

-- e is the set of emptied updates, by their first blocks
unfoldable pub kept : List ℕ → (ℕ → Bool) → ℕ → Bool
kept old e b = first old b && not (e b)

unfoldable pub after : List ℕ → ℕ → (ℕ → Bool) → ℕ → Bool
after old start e b = kept old e b || eqb b start

-- t, d, n, k are the numbers of the candidate's verdict: T, data size, entries, blocks
pub record After (old new cand : List ℕ) (t d n k start : ℕ) (e : ℕ → Bool) : Type 0 where
  -- a valid store of the same length
  pub ok : store_ok new ≡ true
  pub long : length new ≡ length old
  -- whose updates are the kept ones and one at the start
  pub firsts : (b : ℕ) → b < block_count old → first new b ≡ after old start e b
  -- each kept update stands at its place with its old bytes
  pub stays : (b j : ℕ) → b < block_count old → kept old e b ≡ true → slot_at old b ≡ Update j → (slot_at new b ≡ Update j) × Same (from_block old b) (from_block new b) (j * 2048)
  pub stays_covers : (b : ℕ) → b < block_count old → kept old e b ≡ true → (x p : ℕ) → covers (from_block old b) x p ≡ covers (from_block new b) x p
  -- the other is the candidate
  pub placed : slot_at new start ≡ Update (blocks_of t)
  pub bytes : Same cand (from_block new start) t
  pub judged : verdict (from_block new start) ≡ Good t d n k
  pub placed_covers : (x p : ℕ) → covers cand x p ≡ covers (from_block new start) x p
