pub mod Adding
pub mod Bits
pub mod Kinds
pub mod Inserting
pub mod Counts
pub mod Flows
pub mod Moves
pub mod Floors
