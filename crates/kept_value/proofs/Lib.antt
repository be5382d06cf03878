pub mod ChargedLaws
pub mod KeptLaws
pub mod RepricedLaws
