pub mod Bits
pub mod Breaks
pub mod inner
