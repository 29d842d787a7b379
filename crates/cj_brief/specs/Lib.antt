pub mod Certificates
pub mod Accepted
pub mod Splits
pub mod Telling
pub mod Written
