pub mod Inserting
pub mod Tables
pub mod LawfulRows
pub mod RowsAsHeld
pub mod Capped
pub mod Adding
pub mod LeastRows
pub mod MoveLaws
