-- The write call (document 01, "The calls", 1): the definitions, demand 3, then laws.
pub mod Write
pub mod Demand
pub mod CandidateSizeLaws
pub mod PlanCases
pub mod Planned
pub mod Storing
pub mod Join
pub mod Counts
pub mod Chosen
pub mod Answered
pub mod WriteCases
pub mod Outdated
pub mod OutdatedLaws
pub mod RunFree
