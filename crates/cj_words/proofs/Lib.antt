mod DigitLemmas
mod EndLemmas
mod FormatLemmas
mod FrontLemmas
mod LineLemmas
mod PlaceLemmas
mod TellingLemmas
