pub mod SameSums
pub mod FloorsOnce
pub mod MovesOnce
pub mod Solutions
pub mod BranchesOnce
pub mod StepsOnce
pub mod PlacesOnce
pub mod PointsOnce
