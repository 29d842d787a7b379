pub mod PairLemmas
pub mod PairOrderLemmas
pub mod SlotLemmas
pub mod TableLemmas
