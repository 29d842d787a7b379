pub mod Counts
pub mod Cuts
pub mod Halts
pub mod Marks
pub mod Slabs
