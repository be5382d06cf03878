pub mod BuildingLaws
pub mod FrontLaws
pub mod CapLaws
pub mod CellColumns
