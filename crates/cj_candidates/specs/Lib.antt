pub mod Counts
pub mod MeasuredObjects
pub mod SlotRuns
pub mod SoughtPairs
