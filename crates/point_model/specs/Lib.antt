pub mod PlansOfPoints
