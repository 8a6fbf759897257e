-- What stands at a block, said of the store from its first byte on (document 01, "The store").
--   fits          an update of t bytes fits in the remaining blocks, and bytes after t in its last block are FFh
--   update_slot   by the verdict on the bytes, of a block that isn't unused
--   slot_of       unused; or a valid update must begin there, fit, and occupy ceiling(T / 2,048) blocks; anything else is bad
use Rattle.std.specs.Prelude.{ℕ, ◌*◌, ◌-◌, Bool, ◌&&◌, List, length, leb, Ok, Err}
use Rattle.laws.specs.Unless.{unless}
use Rattle.update_sizes.specs.Sizes.{block, blocks_of}
use Rattle.update_verdict.specs.Verdict.{Verdict, verdict}
use Rattle.store_blocks.specs.Blocks.{filled, unused}
use Rattle.store_blocks.specs.declared.slot.Slot.{Slot}
use Rattle.store_blocks.specs.declared.slot.Slot.TheVariants.{Unused, Update, Bad}

unfoldable pub fits : List ℕ → ℕ → Bool
fits s t = leb (blocks_of t * block) (length s) && filled s t (blocks_of t * block - t)

unfoldable pub update_slot : List ℕ → Verdict → Slot
update_slot s (Ok m) = unless (fits s m.total) Bad (Update m.blocks)
update_slot s (Err e) = Bad

unfoldable pub slot_of : List ℕ → Slot
slot_of s = unless (unused s) (update_slot s (verdict s)) Unused
