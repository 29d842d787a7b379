pub mod CurrentLemmas
pub mod EnteredLemmas
mod EnterLemmas
pub mod FillLemmas
pub mod FoundLemmas
mod InBlocksLemmas
pub mod JoinLemmas
pub mod RewrittenLemmas
pub mod RoundLemmas
pub mod RowLemmas
pub mod RunLemmas
pub mod TreatedLemmas
