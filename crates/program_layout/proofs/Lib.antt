pub mod CountLaws
pub mod LayoutLaws
