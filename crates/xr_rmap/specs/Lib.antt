pub mod Joins
pub mod PairLaws
pub mod Pairs
pub mod Rmap
