pub mod Fronts
pub mod Growing
pub mod NamedFiles
pub mod Notes
