pub mod PriceLaws
pub mod CostedLaws
pub mod PaidLaws
pub mod PairLaws
