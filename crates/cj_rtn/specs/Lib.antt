pub mod States
pub mod Vectors
pub mod Axes
pub mod Relative
pub mod Exact
