-- The stored updates against a run: what is stored, what the run does to each and to all, and what the program's arrays stand for.
pub mod StoredUpdates
pub mod Against
pub mod StoredMarks
pub mod Capped
pub mod EmptiedBits
