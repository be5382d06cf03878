pub mod GainLaws
pub mod LocalLaws
pub mod NeighbourLaws
