pub mod WalkLaws
pub mod CheckerLaws
pub mod ReasonFirsts
pub mod FirstPairs
pub mod KeptLines
pub mod WalkedLaws
