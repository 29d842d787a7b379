pub mod CivilLemmas
pub mod DigitLemmas
pub mod LeapLemmas
pub mod PictureLemmas
pub mod ReadingLemmas
pub mod WrittenLemmas
pub mod YearLemmas
