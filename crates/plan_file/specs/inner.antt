pub mod Scan
pub mod State
pub mod Writing
