pub mod Making
pub mod ValueLemmas
pub mod PlaceLemmas
pub mod AnswerLemmas
pub mod LawLemmas
pub mod AppendLemmas
pub mod SlotLemmas
