-- The index after a write, as the code makes it: the lines of the emptied blocks are cleared, then those of the run written.
--   run_end       the end of the run, no further than block 32
--   low_zeros     how many low bits of a number are 0, by eights: 24, 16, 8 or 0
--   Cleared       the lines of the emptied blocks below b are unused; the others stay
use Rattle.std.specs.Prelude.{ℕ, ◌+◌, ◌%◌, ◌<◌, ◌≤◌, ◌≡◌, cond, List, eqb, ltb}
use Rattle.store_index.specs.Index.{line_of}
use Rattle.store_index.specs.IndexColumns.{index_in}
use Rattle.store_index.specs.IndexAfter.{cleared_line}
use Rattle.store_index.specs.UpdateLines.{Columns}

unfoldable pub run_end : ℕ → ℕ → ℕ
run_end start size = cond (ltb (start + size) 32) (start + size) 32

unfoldable pub low_zeros : ℕ → ℕ
low_zeros bits = cond (eqb (bits % 16777216) 0) 24 (cond (eqb (bits % 65536) 0) 16 (cond (eqb (bits % 256) 0) 8 0))

pub record Cleared (emptied b : ℕ) (old new : List (List ℕ)) : Type 0 where
  pub long : Columns new
  pub below : (c : ℕ) → c < b → line_of (index_in new) c ≡ cleared_line (index_in old) emptied c
  pub rest : (c : ℕ) → b ≤ c → line_of (index_in new) c ≡ line_of (index_in old) c
