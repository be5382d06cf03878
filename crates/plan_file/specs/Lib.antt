pub mod Lines
pub mod PlanText
pub mod Refusals
pub mod Spelled
pub mod inner
