-- How the bytes are moved.
pub mod Paste
