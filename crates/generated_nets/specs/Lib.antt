pub mod Generated
pub mod Spelling
