pub mod Zero
pub mod Tolls
