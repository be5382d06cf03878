pub mod LetterLaws
pub mod PartLaws
pub mod WordLaws
pub mod PlanLaws
