pub mod Coverage
pub mod Stretches
