pub mod Same
pub mod Trimmed
