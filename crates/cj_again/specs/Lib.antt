pub mod KeptPairs
pub mod Matchings
pub mod PairLeaves
