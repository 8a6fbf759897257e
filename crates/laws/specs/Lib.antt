-- General definitions and laws: nothing here names an update, a store or a call.
pub mod Bools
pub mod Orders
pub mod Span
pub mod Below
pub mod Loops
pub mod Count
pub mod NumbersBelow
pub mod First
pub mod Least
pub mod Arrays
pub mod Unless
pub mod Tests
pub mod Bits
pub mod LowByte
pub mod Same
pub mod Tabulate
