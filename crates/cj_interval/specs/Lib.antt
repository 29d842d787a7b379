pub mod Passing
pub mod Rounding
pub mod Sizes
pub mod Spans
pub mod SquareRoots
