pub mod NearLemmas
pub mod StepLemmas
pub mod KeptLemmas
pub mod CoveredLemmas
pub mod ThinLemmas
