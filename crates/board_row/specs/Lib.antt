-- A row of answer words.
pub mod Row
