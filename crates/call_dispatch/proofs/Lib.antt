-- The laws of the definitions in specs/, for this crate and those above it.
pub mod CallLaws
pub mod Demand1Laws
