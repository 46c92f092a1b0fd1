-- Internal: how seats meet, through a note that goes from one to the next.
use Rattle.std.specs.Prelude.{◌≡◌, ℕ, List, length, slice_get, Some}
use Rattle.journal_core.specs.declared.entry.Entry.{Entry}
use Rattle.journal_core.specs.History.{Begins}
use Rattle.ledger_core.specs.Shared.{SeatView, Knows, Sees}

-- a seat that the note passed: the note showed `before` when it came, and shows `after` when it goes on
pub record IsPassed (before after : List Entry) (old new : SeatView) : Type 0 where
  pub sees : Sees old new
  pub from : Begins before new.seen
  pub to : Begins new.seen after
  pub known : Knows old
  pub knows : Knows new

-- the note went from seat to seat
pub record ArePassed (before after : List Entry) (old new : List SeatView) : Type 0 where
  pub count : length new ≡ length old
  pub on : Begins before after
  pub each : (i : ℕ) (v : SeatView) → slice_get old i ≡ Some v
      → (w : SeatView) × (slice_get new i ≡ Some w) × IsPassed before after v w
