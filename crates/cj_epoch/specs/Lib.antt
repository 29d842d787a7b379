pub mod Picture
pub mod Reading
pub mod Written
