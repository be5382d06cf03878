pub mod PricePairs
pub mod Searching
pub mod Running
pub mod Emptiness
pub mod Decided
