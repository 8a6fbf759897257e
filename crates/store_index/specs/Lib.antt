-- The index of a store (document 02, One): definitions, then laws.
pub mod Index
pub mod IndexColumns
pub mod IndexAfter
pub mod SameIndex
pub mod UpdateLines
pub mod OwnLines
pub mod AfterLines
pub mod SameIndexLaws
pub mod UpdateLineLaws
pub mod IndexLines
pub mod OwnLineLaws
pub mod IndexExamples
