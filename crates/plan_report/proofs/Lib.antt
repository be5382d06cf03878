pub mod PlainFields
pub mod Rows
