pub mod Greens
pub mod Judging
pub mod Scan
