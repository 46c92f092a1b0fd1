-- There is a slot for each number so far.
use Rattle.std.proofs.Common.{◌≡◌, ◌+◌, ◌≤◌, [], take, All, vec_capacity, vec_len}
use Rattle.worker_core.specs.Slots.{AreSlotsOf}
use Rattle.worker_core.proofs.filling.lay_out.Given as goal

abbrev pub invariant-laying : goal.invariant-laying
invariant-laying l = record {
  slots : AreSlotsOf l.size (take l.number l.owned.round.values) l.slots.items;
  capacity : vec_capacity l.fn.slots ≤ vec_capacity l.slots;
  empty : All (λ buffer. buffer.items ≡ []) l.spare.items;
  room : All (λ buffer. l.size ≤ vec_capacity buffer) l.spare.items;
  count : vec_len l.spare + l.number ≡ vec_len l.fn.spare;
  list : vec_capacity l.fn.spare ≤ vec_capacity l.spare;
}
