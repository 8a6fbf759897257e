-- The answer words of the calls: definitions, then laws.
pub mod Words
pub mod WordLaws
