pub mod Gains
pub mod Waiting
pub mod Ends
