pub mod LeapLemmas
