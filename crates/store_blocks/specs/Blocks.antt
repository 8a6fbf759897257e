-- Blocks of 2,048 bytes, and bytes that are FFh (document 01, "The store").
--   most_blocks         the most blocks of a store
--   from_block          the store from block b's first byte on
--   block_count         N, the number of blocks
--   length_ok           N from 1 to 32, and no other length
--   is_ff, filled       byte i + k is FFh; the n bytes from i on are
--   unused              a block is unused if all its bytes are FFh
use Rattle.std.specs.Prelude.{ℕ, ◌+◌, ◌*◌, ◌%◌, ◌/◌, Bool, ◌&&◌, List, length, get_or, drop, leb, eqb}
use Rattle.laws.specs.Below.{all_below}
use Rattle.update_sizes.specs.Sizes.{block}

abbrev pub most_blocks : ℕ
most_blocks = 32

abbrev pub from_block : List ℕ → ℕ → List ℕ
from_block s b = drop (b * block) s

unfoldable pub block_count : List ℕ → ℕ
block_count s = length s / block

unfoldable pub length_ok : ℕ → Bool
length_ok n = eqb (n % block) 0 && leb 1 (n / block) && leb (n / block) most_blocks

unfoldable pub is_ff : List ℕ → ℕ → ℕ → Bool
is_ff s i k = eqb (get_or s (i + k) 0) 255

unfoldable pub filled : List ℕ → ℕ → ℕ → Bool
filled s i n = all_below n (is_ff s i)

-- of the part from the block on
unfoldable pub unused : List ℕ → Bool
unused s = leb block (length s) && filled s 0 block
