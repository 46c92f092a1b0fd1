-- A round that threads share, and a crew whose workers last, as contracts see them.
use Rattle.std.specs.Prelude.{◌≡◌, ℕ, ◌≤◌, [], All, vec_capacity}
use Rattle.worker_core.specs.declared.lasting.LastingCrew.TheInside.{Inside as LastingCrew}
use Rattle.std.specs.Arc.{arc_value}
use Rattle.worker_core.specs.declared.lasting.Owners.{Owners}
use Rattle.worker_core.specs.Owned.{OwnedView}

-- how many pieces a round can have, how many bytes each, how many buffers for pieces are spare, and for how many slots
-- there is room: between rounds as many as a round can have
pub record LastingView : Type 0 where
  pub room : ℕ
  pub size : ℕ
  pub spare : ℕ
  pub slots : ℕ

-- a round, how many bytes of room each piece has, and for how many slots there is room
pub record SharingView : Type 0 where
  pub owned : OwnedView
  pub size : ℕ
  pub slots : ℕ

-- a round of several owners or of one, as contracts see it
unfoldable pub owners_view : Owners → SharingView
owners_view (Owners.Several shared) =
    record { owned = (arc_value shared).owned; size = (arc_value shared).size; slots = vec_capacity (arc_value shared).slots }
owners_view (Owners.One shared) = record { owned = shared.owned; size = shared.size; slots = vec_capacity shared.slots }

-- spare buffers are empty, each has room for a piece, and so has the one in hand; the list has room for all; no slot is
-- laid out
pub record IsLasting (crew : LastingCrew) : Type 0 where
  pub empty : All (λ buffer. buffer.items ≡ []) crew.spare.items
  pub each : All (λ buffer. crew.size ≤ vec_capacity buffer) crew.spare.items
  pub list : crew.room ≤ vec_capacity crew.spare
  pub none : crew.slots.items ≡ []
  pub hand : (crew.hand.items ≡ []) × (crew.size ≤ vec_capacity crew.hand)
