-- The board's calls.
pub mod LoadAx
