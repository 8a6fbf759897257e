-- The board's processor list (document 01, "The store" and checks 1, 5 and 7 of the write): definitions, then laws.
pub mod Processors
pub mod Covered
pub mod Repeats
pub mod ListLaws
