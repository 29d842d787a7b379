pub mod Moments
pub mod Samples
pub mod Scenes
