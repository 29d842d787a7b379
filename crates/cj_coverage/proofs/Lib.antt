pub mod CoverageLemmas
pub mod StretchLemmas
pub mod UncoveredLemmas
