-- The laws of the definitions in specs/, for this crate and those above it.
pub mod ClashLaws
pub mod DirectoryLaws
pub mod OldStoreLaws
pub mod PairedLaws
pub mod StoreLaws
pub mod ValidLaws
