pub mod Spread
pub mod inner
