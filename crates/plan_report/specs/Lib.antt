pub mod Gaps
pub mod Summary
pub mod Table
pub mod inner
