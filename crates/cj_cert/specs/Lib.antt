pub mod Versions
pub mod Certificates
pub mod Listed
pub mod Accepted
pub mod Splits
pub mod Written
pub mod Reaches
