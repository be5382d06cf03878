pub mod Expansion
pub mod inner
