use Rattle.std.proofs.Common.{◌≡◌, All, vec_len}
use Rattle.worker_core.specs.Rooms.{HasRoom}
use Rattle.worker_core.proofs.places.empty_places.Given as goal

abbrev pub invariant-loop-n : goal.invariant-loop-n
invariant-loop-n l = record {
  count : vec_len l.pieces ≡ l._n;
  room : All (HasRoom l.size) l.pieces.items;
}
