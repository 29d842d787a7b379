pub mod CoveredLemmas
pub mod EncounterTextLemmas
pub mod NumberLemmas
mod RunLemmas
