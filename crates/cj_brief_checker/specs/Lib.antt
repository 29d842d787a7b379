pub mod Cuts
pub mod FarThroughout
pub mod First
pub mod Shown
pub mod SlotCells
pub mod SlotPairs
pub mod Steps
