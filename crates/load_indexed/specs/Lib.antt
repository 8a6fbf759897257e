-- The load choice through an index (document 02, One): definitions, then laws.
pub mod IndexedLoad
