-- Definitions that no promise reaches.
pub mod Counts
pub mod LineReads
pub mod Pairs
pub mod Parts
pub mod Spaces
pub mod SparePairs
