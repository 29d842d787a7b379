pub mod BriefLemmas
pub mod PrimaryLemmas
pub mod RootsBySlotLemmas
pub mod TellingLemmas
pub mod WrittenLemmas
