mod AgainLemmas
mod BoxLemmas
mod CapLemmas
pub mod ChainLemmas
mod CountLemmas
pub mod LengthLemmas
mod LineLemmas
mod NumberLemmas
mod PartLemmas
mod ReadLemmas
mod ReaderLemmas
mod RowLemmas
mod SaidLemmas
mod SplitLemmas
mod TextLemmas
mod WordLemmas
mod WrittenTextLemmas
pub mod WrittenFitsLemmas
