-- The end of a ledger: all of its seats, what they have after they met, and the whole history.
use Rattle.std.specs.Prelude.{◌≡◌, ℕ, List, length, slice_get, Some}
use Rattle.journal_core.specs.declared.entry.Entry.{Entry}
use Rattle.journal_core.specs.declared.terms.Terms.{Terms}
use Rattle.journal_core.specs.History.{Legal, Begins, calls_of}
use Rattle.ledger_core.specs.Shared.{LedgerView, SeatView, Knows, Sees}

-- all seats of a ledger, in the order of their numbers
pub record AreAllSeats (ledger : LedgerView) (seats : List SeatView) : Type 0 where
  pub count : length seats ≡ ledger.terms.seats
  pub each : (i : ℕ) (seat : SeatView) → slice_get seats i ≡ Some seat
      → (seat.ledger ≡ ledger.ledger) × (seat.terms ≡ ledger.terms) × (seat.number ≡ i)

-- what the seat has seen is a prefix of the history, whose entries of the seat are the seat's own operations, in order
pub record HasSeat (history : List Entry) (seat : SeatView) : Type 0 where
  pub seen : Begins seat.seen history
  pub own : calls_of seat.number history ≡ seat.mine

-- the whole history of all seats. It is legal, so it has no entry of another seat
pub record IsWhole (terms : Terms) (seats : List SeatView) (history : List Entry) : Type 0 where
  pub legal : Legal terms history
  pub each : (i : ℕ) (seat : SeatView) → slice_get seats i ≡ Some seat → HasSeat history seat

-- seats that have met: what each seat had seen is a prefix of one history, which has of each its own operations. Each
-- seat has now seen all of it
pub record HaveMet (old new : List SeatView) (history : List Entry) : Type 0 where
  pub count : length new ≡ length old
  pub before : (i : ℕ) (v : SeatView) → slice_get old i ≡ Some v → HasSeat history v
  pub after : (i : ℕ) (v : SeatView) → slice_get old i ≡ Some v
      → (w : SeatView) × (slice_get new i ≡ Some w) × Sees v w × Knows w × Begins history w.seen
