pub mod Dealing
pub mod Runs
