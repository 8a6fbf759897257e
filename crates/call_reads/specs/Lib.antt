-- The calls that only read a store (document 01, "The calls", 0 and 3): definitions, then laws.
pub mod Presence
pub mod Read
pub mod CopyBounds
pub mod PresenceLaws
pub mod ReadRefusals
