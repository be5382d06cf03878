pub mod BreakLaws
pub mod SmallValues
pub mod ShownLaws
