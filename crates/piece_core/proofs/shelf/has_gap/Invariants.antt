use Rattle.std.proofs.Common.{◌≢◌, ℕ, ◌<◌, get_or}
use Rattle.piece_core.specs.declared.shelf.ShelfPlace.TheVariants.{Empty}
use Rattle.piece_core.proofs.shelf.has_gap.Given as goal

abbrev pub invariant-loop-n : goal.invariant-loop-n
invariant-loop-n l = (k : ℕ) → k < l.n → get_or l.places k Empty ≢ Empty
