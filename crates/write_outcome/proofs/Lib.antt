-- The laws of the definitions in specs/, for this crate and those above it.
pub mod AfterLaws
pub mod ByteLaws
pub mod Cleared
pub mod EmptiedEntries
pub mod KeptLaws
pub mod PlacedLaws
