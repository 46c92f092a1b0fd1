pub mod BoundLemmas
pub mod PartLemmas
