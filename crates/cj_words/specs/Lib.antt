pub mod Commands
pub mod Limits
pub mod Lines
pub mod Options
pub mod Places
pub mod Settings
pub mod Telling
