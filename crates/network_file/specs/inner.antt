pub mod Judged
pub mod KeyTables
pub mod SameNames
pub mod Stages
pub mod Tables
