pub mod Thinned
pub mod Within
