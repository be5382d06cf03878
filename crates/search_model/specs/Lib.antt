pub mod Splits
pub mod LeafNumbers
pub mod Breaks
