pub mod BoxLaws
pub mod GoodLaws
pub mod GrowLaws
pub mod MoveLaws
pub mod PreorderLaws
pub mod SlotLaws
pub mod StepLaws
pub mod TreeLaws
