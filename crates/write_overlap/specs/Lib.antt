-- One stored update against a run of blocks (document 01, check 8 of the write and the sentences behind check 9).
pub mod Overlap
