pub mod Grammar
pub mod Limits
pub mod Primaries
pub mod Radii
pub mod Readers
pub mod Reading
pub mod Rows
pub mod Sizes
