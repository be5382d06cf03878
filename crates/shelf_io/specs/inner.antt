-- Definitions that no promise and no public clause reaches: a reader who believes those needs none of these.
pub mod NamedFile
pub mod Pieces
