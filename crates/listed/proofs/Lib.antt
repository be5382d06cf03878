pub mod SumLaws
pub mod WholeSums
pub mod TableLaws
pub mod JoinLaws
