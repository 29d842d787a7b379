mod OneSlotLemmas
mod PairLemmas
