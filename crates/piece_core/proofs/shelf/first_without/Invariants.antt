use Rattle.std.proofs.Common.{ℕ, ◌<◌, get_or}
use Rattle.piece_core.specs.declared.shelf.ShelfPlace.TheVariants.{Empty}
use Rattle.piece_core.specs.Rooms.{IsWithout}
use Rattle.piece_core.proofs.shelf.first_without.Given as goal

abbrev pub invariant-loop-n : goal.invariant-loop-n
invariant-loop-n l = (k : ℕ) → k < l.n → IsWithout (get_or l.places k Empty) → ⊥
