mod CauseLemmas
mod FindLemmas
mod HintLemmas
mod TellLemmas
mod WarningLemmas
