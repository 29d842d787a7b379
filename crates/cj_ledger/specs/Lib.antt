pub mod Counts
pub mod Shares
pub mod Words
