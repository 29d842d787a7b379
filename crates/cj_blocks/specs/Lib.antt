pub mod BoxRows
pub mod Blocks
pub mod PairsByObject
pub mod Listed
pub mod Entered
pub mod Rewritten
