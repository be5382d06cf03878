pub mod Standing
pub mod Trace
pub mod Asked
pub mod Keeps
pub mod inner
