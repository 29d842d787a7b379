mod BoundLemmas
mod DrawLemmas
mod FigureLemmas
mod LengthLemmas
mod LineLemmas
mod NodeLemmas
mod OrbitLemmas
mod RoundingLemmas
mod StampLemmas
mod TextLemmas
pub mod PlaneLemmas
pub mod TrackLemmas
