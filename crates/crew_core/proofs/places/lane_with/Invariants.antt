use Rattle.std.proofs.Common.{ℕ, ◌<◌}
use Rattle.crew_core.specs.Places.{BeginsWith, done_at}
use Rattle.crew_core.proofs.places.lane_with.Given as goal

abbrev pub invariant-loop-lane : goal.invariant-loop-lane
invariant-loop-lane l = (k : ℕ) → k < l.lane → BeginsWith l.job (done_at l.places k) → ⊥
