use Rattle.std.proofs.Common.{◌≡◌, replicate}
use Rattle.piece_core.specs.declared.shelf.ShelfPlace.TheVariants.{Empty}
use Rattle.piece_core.proofs.shelf.empty_shelf_places.Given as goal

abbrev pub invariant-loop-n : goal.invariant-loop-n
invariant-loop-n l = l.places.items ≡ replicate l._n Empty
