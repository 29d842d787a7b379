mod BoxLemmas
mod KeepingLemmas
mod ListedLemmas
mod MeasuredLemmas
mod SearchLemmas
mod SlotRunLemmas
mod WantedLemmas
pub mod CountLemmas
pub mod NoStateLemmas
pub mod ObjectLemmas
