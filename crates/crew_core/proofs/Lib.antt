pub mod RoundLemmas
pub mod StepLemmas
pub mod OrderLemmas
pub mod LaneLemmas
pub mod BatchLemmas
pub mod Callers
