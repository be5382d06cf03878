pub mod ProgramText
pub mod PointText
