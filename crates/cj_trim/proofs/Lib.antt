pub mod NeededLemmas
pub mod SameLemmas
pub mod TrimLemmas
