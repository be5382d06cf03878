mod Arrays
mod ItemLists
mod KeyLists
mod KnownValues
mod NameLists
mod NamesDiffer
mod Pieces
mod PlaceLaws
mod RangeLaws
mod RawNetwork
pub mod SpelledRange
mod TableWalks
mod ValueLaws
