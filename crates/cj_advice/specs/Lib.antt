pub mod Causes
pub mod Hints
pub mod Options
pub mod Warnings
