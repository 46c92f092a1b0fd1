pub mod PartsLemmas
pub mod CutLemmas
pub mod StreamLemmas
pub mod HeaderLemmas
pub mod OpeningLemmas
pub mod FaultLemmas
pub mod RoundLemmas
pub mod LawLemmas
