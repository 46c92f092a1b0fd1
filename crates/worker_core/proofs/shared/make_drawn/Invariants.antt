-- The buffer in hand is empty, and has room for a piece.
use Rattle.std.proofs.Common.{◌≡◌, ◌≤◌, [], vec_capacity}
use Rattle.worker_core.proofs.shared.make_drawn.Given as goal

abbrev pub invariant-drawing : goal.invariant-drawing
invariant-drawing g l = record {
  empty : l.hand.items ≡ [];
  room : l.shared.size ≤ vec_capacity l.hand;
}
