pub mod TextLaws
pub mod PointLaws
pub mod ReadLaws
pub mod SpellLaws
pub mod KnownValues
