use Rattle.std.proofs.Common.{◌≡◌, ◌⊎◌, ◌++◌, ℕ, ◌<◌, length, map, take, drop, get_or, All, None}
use Rattle.worker_core.specs.Pieces.{times, number_of, all_made, emptied}
use Rattle.worker_core.specs.Rooms.{shown, HasRoom}
use Rattle.worker_core.proofs.places.Places.take.Given as goal

abbrev pub invariant-loop-i : goal.invariant-loop-i
invariant-loop-i l = record {
  size : l.self-inside.size ≡ l.fn.self.size;
  count : l.self-inside.count ≡ length l.round.values;
  places : length l.self-inside.pieces.items ≡ l.fn.self.room;
  room : All (HasRoom l.self-inside.size) l.self-inside.pieces.items;
  benches : l.benches ≡ map emptied (take l.i l.fn.benches) ++ drop l.i l.fn.benches;
  taken : (x : ℕ) → x < length l.round.values
      → (0 < times x (map number_of (all_made (drop l.i l.fn.benches))))
      ⊎ (get_or (map shown l.self-inside.pieces.items) x None ≡ get_or l.round.values x None);
}
