pub mod BucketLemmas
pub mod EntryLemmas
pub mod FoundLemmas
pub mod PairingLemmas
pub mod SweepLemmas
pub mod TrackBoxLemmas
