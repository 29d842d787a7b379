pub mod Cells
pub mod Lists
pub mod Looks
pub mod ReadyPairs
