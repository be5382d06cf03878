pub mod Value
pub mod Tree
pub mod Nodes
pub mod Leaves
pub mod Certificates
pub mod Text
pub mod Reasons
pub mod Verdicts
