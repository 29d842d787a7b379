pub mod LogicLemmas
pub mod ShiftLemmas
