pub mod Marks
pub mod Fronts
pub mod Unfinished
pub mod Progress
pub mod Readers
pub mod inner
