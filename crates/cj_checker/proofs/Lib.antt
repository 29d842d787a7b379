mod BesideLemmas
mod BothLemmas
mod BoundLemmas
mod BoxLemmas
pub mod CauseLemmas
pub mod CheckLemmas
pub mod FirstLemmas
mod RowLemmas
mod HullLemmas
mod KeyLemmas
mod PlaceLemmas
mod ReadLemmas
pub mod RoundLemmas
pub mod SweepLemmas
mod TableLemmas
pub mod TestLemmas
pub mod TilingLemmas
mod TurnLemmas
pub mod UnfitLemmas
mod WalkLemmas
