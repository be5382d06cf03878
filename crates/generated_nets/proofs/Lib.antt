pub mod RepeatLaws
pub mod TextLaws
