-- The outcome of a write (document 01, "The words of demand 3"): definitions, then laws.
pub mod Legal
pub mod OutcomeBytes
pub mod EmptiedBlocks
pub mod After
pub mod Cleared
pub mod EmptiedEntries
