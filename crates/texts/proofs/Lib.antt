pub mod LineLaws
pub mod NumberLaws
pub mod WholeLaws
pub mod NameLaws
pub mod KnownValues
