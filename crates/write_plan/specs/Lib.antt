-- Checks 6 to 8 of the write (document 01, "The calls", 1): the marks of the stored updates, the answer by them, then laws.
pub mod CandidateMarks
pub mod Plan
pub mod VerdictCode
pub mod RightMarks
pub mod CandidateMarkLaws
pub mod PlanLaws
