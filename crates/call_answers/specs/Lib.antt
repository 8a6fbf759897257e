-- The answers (document 01, "Codes"): definitions, then laws.
pub mod Codes
pub mod Answers
pub mod Refusals
pub mod Choice
pub mod AnswerLaws
pub mod RefusalLaws
pub mod RefusalCodes
