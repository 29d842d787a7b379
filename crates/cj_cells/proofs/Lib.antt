pub mod LeafLemmas
pub mod ListingLemmas
pub mod OrderLemmas
pub mod ReadyLemmas
pub mod RefineLemmas
pub mod SlotRootLemmas
pub mod WalkLemmas
