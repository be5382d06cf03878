pub mod TermLaws
pub mod ColumnLaws
pub mod LawfulTerms
pub mod BuildLaws
pub mod CountLaws
pub mod ScatterLaws
pub mod MatrixLaws
