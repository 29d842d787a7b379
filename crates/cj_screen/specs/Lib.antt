pub mod Errors
pub mod Headline
pub mod Refining
pub mod Results
pub mod Tasks
