pub mod Errors
pub mod Faults
pub mod Statuses
pub mod Steps
