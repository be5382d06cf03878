pub mod Bounds
pub mod Fronts
