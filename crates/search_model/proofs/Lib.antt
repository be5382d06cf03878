pub mod SplitLaws
pub mod BitLaws
pub mod NumberLaws
pub mod BreakLaws
