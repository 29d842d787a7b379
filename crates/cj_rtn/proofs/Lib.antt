pub mod AlongLemmas
pub mod AxisLemmas
pub mod ExactLemmas
pub mod NearLemmas
pub mod ObjectLemmas
pub mod SizeLemmas
pub mod TrackLemmas
pub mod VectorLemmas
