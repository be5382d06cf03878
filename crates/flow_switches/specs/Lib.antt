pub mod FirstLeast
pub mod Sums
pub mod Conditions
pub mod Added
pub mod Moves
pub mod inner
