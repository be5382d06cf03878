pub mod Flows
pub mod Passing
pub mod Spreading
pub mod Steps
pub mod Adding
pub mod Noting
pub mod Keeping
pub mod Differing
