-- The answer words of the load choice: definitions, then laws.
pub mod LoadWords
pub mod LoadWordLaws
