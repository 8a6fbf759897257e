-- `store_blocks::slot::read_slot` meets its contract, by cases of the verdict.
use Rattle.store_blocks.specs.Slot.{slot_of}
use Rattle.store_blocks.proofs.SlotCases.{slotting}
use Rattle.store_blocks.proofs.slot.read_slot.Goals as goal

pub returns-then-fits : goal.returns-then-fits
unfolding slot_of
returns-then-fits c = search slotting

pub returns-else-fits : goal.returns-else-fits
unfolding slot_of
returns-else-fits c = search slotting
