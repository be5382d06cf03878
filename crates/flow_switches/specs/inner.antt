pub mod Inserting
pub mod Columns
