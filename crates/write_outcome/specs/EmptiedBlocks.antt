-- The blocks of the emptied updates, as a write answers them.
--   emptied_blocks   bit b for each block b of a stored update of the set e, as a number
use Rattle.std.specs.Prelude.{ℕ, Bool, List}
use Rattle.laws.specs.Bits.{bits_below}
use Rattle.store_blocks.specs.Blocks.{block_count}
use Rattle.write_outcome.specs.OutcomeBytes.{emptied_at}

unfoldable pub emptied_blocks : List ℕ → (ℕ → Bool) → ℕ
emptied_blocks old e = bits_below (block_count old) (emptied_at old e)
