pub mod JoinedGaps
pub mod TrackWalks
