-- Texts for people (document 01, "The catalogue"): numbers in digits, a text that is being made, and a text in a lent buffer.
pub mod Digits
pub mod Texts
pub mod Given
pub mod TextListLaws
pub mod DigitLaws
pub mod TextLaws
pub mod GivenLaws
