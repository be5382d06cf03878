pub mod Named
pub mod Replayed
pub mod inner
