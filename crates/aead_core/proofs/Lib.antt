pub mod AeadLemmas
pub mod StripLemmas
