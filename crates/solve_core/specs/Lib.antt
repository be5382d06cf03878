pub mod Shapes
pub mod Earned
pub mod Growth
pub mod Searched
pub mod Solved
pub mod inner
