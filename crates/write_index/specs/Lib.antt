-- The index after an accepted write (document 02, One): which update has a block of the new store, then its lines and the theorem.
pub mod OwnersAfter
