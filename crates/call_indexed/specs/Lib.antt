-- The index call, and the read through an index (document 02, One): definitions, then laws.
pub mod IndexCall
pub mod IndexedRead
pub mod IndexCallLaws
