-- The slots in which the pieces of a shared round are made.
use Rattle.std.specs.Prelude.{◌≡◌, ℕ, ◌≤◌, true, false, List, [], Option, None, map, take, All, slice_index_or, vec_capacity}
use Rattle.worker_core.specs.declared.slots.Expected.{Expected}
use Rattle.worker_core.specs.declared.slots.Slot.{Slot}
use Rattle.worker_core.specs.Rooms.{shown}
use Rattle.worker_core.specs.Values.{values_of}

-- what comes of the chunk for which a slot is
abbrev pub expected_value : Expected → Option (List ℕ)
expected_value e = slice_index_or
    (values_of e.task e.key.value e.header.value e.first e.last (take e.length e.bytes.value.items)) e.number None

-- a slot has its piece, or an empty buffer, and in both cases room for the piece
pub record IsSlotOf (expected : Expected) (slot : Slot) : Type 0 where
  pub room : expected.size ≤ vec_capacity slot.piece.bytes
  pub made : slot.filled ≡ true → shown slot.piece ≡ expected_value expected
  pub empty : slot.filled ≡ false → slot.piece.bytes.items ≡ []

-- a slot for each of these values, each with room for `size` bytes
pub record AreSlotsOf (size : ℕ) (values : List (Option (List ℕ))) (slots : List Expected) : Type 0 where
  pub each : map expected_value slots ≡ values
  pub sizes : All (λ e. e.size ≡ size) slots
