mod AbsorbedLemmas
mod LaneLemmas
mod LittleLemmas
mod SumLemmas
