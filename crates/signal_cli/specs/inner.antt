pub mod Causes
pub mod CommandViews
pub mod Judgements
