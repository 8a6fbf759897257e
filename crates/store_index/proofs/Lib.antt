-- The laws of the definitions in specs/, for this crate and those above it.
pub mod AfterLineLaws
pub mod IndexExamples
pub mod IndexLines
pub mod LineLaws
pub mod OwnIndex
pub mod OwnIndexLaws
pub mod UpdateLineLaws
