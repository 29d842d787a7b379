pub mod Among
pub mod Buckets
pub mod Found
pub mod Sweeps
