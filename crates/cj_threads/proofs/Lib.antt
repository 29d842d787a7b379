pub mod DealingLemmas
pub mod RunLemmas
