pub mod Sums
pub mod Paid
pub mod Pairs
