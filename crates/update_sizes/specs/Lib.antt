-- The sizes of an update, as numbers (document 01, "The update"), then the laws that the layers above use.
pub mod Sizes
pub mod SizeLaws
