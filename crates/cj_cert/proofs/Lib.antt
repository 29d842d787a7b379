pub mod AcceptedLemmas
pub mod TiledLemmas
pub mod WrittenLemmas
mod BoundLemmas
pub mod ListedLemmas
mod TimesLemmas
mod TrackLemmas
pub mod WrittenLineLemmas
