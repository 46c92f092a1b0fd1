-- The slots that are left are the first ones, and each piece after them is in its place.
use Rattle.std.proofs.Common.{◌≡◌, ℕ, ◌+◌, ◌<◌, ◌≤◌, [], None, length, map, take, get_or, All, vec_capacity, vec_len}
use Rattle.worker_core.specs.Rooms.{shown, HasRoom}
use Rattle.worker_core.specs.Slots.{expected_value}
use Rattle.worker_core.proofs.filling.clear_slots.Given as goal

abbrev pub invariant-clearing : goal.invariant-clearing
invariant-clearing g l = record {
  number : l.number ≡ length l.slots.items;
  few : length l.slots.items ≤ length l.round.values;
  slots : map expected_value l.slots.items ≡ take (length l.slots.items) l.round.values;
  sizes : All (λ e. e.size ≡ l.size) l.slots.items;
  values : (k : ℕ) → length l.slots.items ≤ k → k < length l.round.values → get_or (map shown l.pieces.items) k None ≡ get_or l.round.values k None;
  capacity : vec_capacity l.fn.slots ≤ vec_capacity l.slots;
  places : vec_len l.pieces ≡ vec_len l.fn.pieces;
  each : All (HasRoom l.size) l.pieces.items;
  empty : All (λ buffer. buffer.items ≡ []) l.spare.items;
  room : All (λ buffer. l.size ≤ vec_capacity buffer) l.spare.items;
  count : vec_len l.spare + length l.slots.items ≡ vec_len l.fn.spare + length l.round.values;
  list : vec_capacity l.fn.spare ≤ vec_capacity l.spare;
}

abbrev pub decreases-clearing : goal.decreases-clearing
decreases-clearing g l = goal.left-clearing g l
