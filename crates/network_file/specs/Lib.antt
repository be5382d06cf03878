pub mod Documents
pub mod Keys
pub mod Range
pub mod Refusals
pub mod Spelled
pub mod inner
