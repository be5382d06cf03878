pub mod Conservation
pub mod Flow
pub mod Occupancy
pub mod Delay
pub mod Runs
