-- The answer words of the index functions: definitions, then laws.
pub mod IndexAnswerWords
pub mod IndexAnswerLaws
pub mod PlanWordLaws
