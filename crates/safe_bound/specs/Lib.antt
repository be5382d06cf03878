pub mod Prices
pub mod Costed
pub mod inner
