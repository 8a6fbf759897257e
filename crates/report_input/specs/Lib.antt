-- Input that arrives in pieces (document 01, "The catalogue": a program reads a store from standard input).
pub mod Input
pub mod InputLaws
