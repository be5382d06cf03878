pub mod Breaks
pub mod Decoded
pub mod inner
