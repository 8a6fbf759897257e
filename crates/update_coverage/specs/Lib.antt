-- Which processors an update covers (document 01, "The update"): definitions, then the laws that the code and the layers above use.
pub mod Covers
pub mod Platforms
