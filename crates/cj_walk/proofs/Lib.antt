pub mod JoinedGapLemmas
