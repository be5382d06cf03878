pub mod ValueLaws
pub mod TreeLaws
pub mod PointLaws
pub mod PlanLaws
pub mod SafeLaws
pub mod TextLaws
pub mod ReasonLaws
pub mod NodeLaws
pub mod VerdictLaws
mod KnownTexts
mod KnownValues
