pub mod Terms
pub mod Program
pub mod Box
pub mod inner
