pub mod Deserved
pub mod Fed
pub mod inner
