pub mod Versions
pub mod Formats
