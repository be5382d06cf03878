pub mod OpenTree
pub mod Boxes
pub mod inner
