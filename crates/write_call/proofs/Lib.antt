-- The laws of the definitions in specs/, for this crate and those above it.
pub mod Answered
pub mod AnsweredBlocks
pub mod Behind
pub mod Checking
pub mod Chosen
pub mod Counts
pub mod Gone
pub mod Join
pub mod Refusals
pub mod RunFreeLaws
pub mod SameLists
pub mod Storing
pub mod Theorem
pub mod WriteCases
