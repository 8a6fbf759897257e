-- Two indexes compared.
pub mod SameNumbers
pub mod SameNumberLaws
