pub mod NamedLaws
pub mod PlanLaws
pub mod KnownValues
