-- The bytes of the pieces so far were moved, and the other pieces are as they were.
use Rattle.std.proofs.Common.{◌≡◌, ◌≤◌, ◌++◌, ℕ, map, take, get_or, All, vec_len}
use Rattle.worker_core.specs.declared.piece.Piece.{Piece}
use Rattle.worker_core.specs.Answer.{joined}
use Rattle.worker_core.specs.Rooms.{shown, HasRoom}
use Rattle.worker_core.proofs.append.move_pieces.Given as goal

abbrev pub invariant-moving : goal.invariant-moving
invariant-moving l = record {
  count : vec_len l.pieces ≡ vec_len l.fn.pieces;
  room : All (HasRoom l.size) l.pieces.items;
  bytes : l.out ≡ l.fn.out ++ joined (take l.number (map shown l.fn.pieces.items));
  rest : (k : ℕ) (d : Piece) → l.number ≤ k → get_or l.pieces.items k d ≡ get_or l.fn.pieces.items k d;
}
