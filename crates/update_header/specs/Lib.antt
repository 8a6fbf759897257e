-- The header of an update (document 01, "The update"): its fields, the checks on them, the data bytes behind it, then the laws that the code and the layers above use.
pub mod Fields
pub mod Checks
pub mod DataPart
pub mod Inside
pub mod CheckLaws
pub mod DataPartLaws
pub mod HeaderOtherData
