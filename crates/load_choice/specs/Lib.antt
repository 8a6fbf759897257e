-- The load choice (document 01, "Load choice").
pub mod Load
pub mod LoadBounds
pub mod LoadLaws
pub mod LoadBoundLaws
pub mod DataLaws
