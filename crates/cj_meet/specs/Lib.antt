pub mod ApproachLists
pub mod Closest
pub mod Encounters
pub mod Flat
pub mod Searches
pub mod Spans
