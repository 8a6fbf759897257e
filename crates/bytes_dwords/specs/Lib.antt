-- Little-endian 32-bit numbers (dwords) in a list of bytes: definitions, then their laws.
pub mod Dword
pub mod Sum
pub mod Summed
