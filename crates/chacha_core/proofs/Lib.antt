mod LaneLemmas
mod RollLemmas
pub mod StreamLemmas
mod StateLemmas
mod WordLemmas
