pub mod Slots
pub mod Entries
pub mod Tokens
pub mod Preorder
