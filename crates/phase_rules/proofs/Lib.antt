pub mod FitLaws
pub mod WordLaws
pub mod JudgeLaws
pub mod ScanLaws
pub mod PhaseLaws
pub mod KnownValues
