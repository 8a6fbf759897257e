-- What the program computes between what it reads and what it writes.
pub mod RunState
pub mod RunStateLaws
pub mod Digest
pub mod DigestLaws
pub mod Lines
pub mod Operands
pub mod OperandLaws
pub mod Edits
pub mod EditLaws
pub mod CallLine
pub mod IndexLine
pub mod IndexedLine
