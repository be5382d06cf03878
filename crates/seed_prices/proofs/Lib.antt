pub mod Pairs
pub mod PriceParts
pub mod LawfulSeed
pub mod Paid
pub mod MovePays
pub mod Costs
pub mod ValueLaw
mod KnownValues
