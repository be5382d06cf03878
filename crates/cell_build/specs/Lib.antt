pub mod Built
pub mod Link
pub mod Names
pub mod Naming
pub mod Refusals
pub mod Spelled
pub mod inner
