pub mod Walk
pub mod Kinds
pub mod Parts
