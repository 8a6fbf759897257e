-- Blocks, and what stands at one (document 01, "The store"): definitions, then their laws.
pub mod Blocks
pub mod Slot
pub mod FilledLaws
pub mod LengthLaws
