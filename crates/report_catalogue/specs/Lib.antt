-- The catalogue (document 01, "The catalogue"): definitions, then the laws that the code uses.
pub mod Catalogue
pub mod Reported
pub mod Walk
