-- Where a new update goes: which outcomes are legal, the choice, what the program's choice stands for, and that the choice is best.
pub mod LegalByNumber
pub mod Choose
pub mod Choices
pub mod Tries
pub mod RunLaws
pub mod Best
pub mod Agree
