pub mod CaseLemmas
pub mod CountLemmas
pub mod CutLemmas
pub mod HaltLemmas
pub mod JoinLemmas
pub mod MarkLemmas
pub mod SlabLemmas
