-- Internal: how the logs of the seats are put together, each record at its index.
use Rattle.std.specs.Prelude.{◌≡◌, ℕ, ◌<◌, List, length, fold, slice_get, slice_set, sum_by, Some}
use Rattle.journal_core.specs.declared.entry.Entry.{Entry}
use Rattle.ledger_core.specs.declared.table.Record.{Record}
use Rattle.journal_core.specs.History.{calls_of}
use Rattle.ledger_core.specs.Logs.{places_from}
use Rattle.ledger_core.specs.Shared.{SeatView}

-- the entries, with each entry of this log at its index
abbrev pub written : List Record → List Entry → List Entry
written log entries = fold (λ es r. slice_set es r.place r.entry) entries log

-- the seat's entries have the same indexes in the history as in what the seat has seen
pub record PlacesSeat (history : List Entry) (seat : SeatView) : Type 0 where
  pub own : calls_of seat.number history ≡ seat.mine
  pub places : places_from 0 seat.number history ≡ places_from 0 seat.number seat.seen

abbrev pub PlacesEach : List SeatView → List Entry → Type 0
PlacesEach seats history = (i : ℕ) (seat : SeatView) → slice_get seats i ≡ Some seat → PlacesSeat history seat

abbrev pub HasNumber : List SeatView → ℕ → Type 0
HasNumber seats number = (i : ℕ) × (seat : SeatView) × (slice_get seats i ≡ Some seat) × (seat.number ≡ number)

-- for any history in which these seats have their indexes, its entries of these seats are at those indexes
abbrev pub ArePlaced : List SeatView → List Entry → Type 0
ArePlaced seats entries =
    (history : List Entry) → PlacesEach seats history → (p : ℕ) (e : Entry) → slice_get history p ≡ Some e
    → p < length entries → HasNumber seats e.seat → slice_get entries p ≡ Some e

-- how many operations all seats have made
abbrev pub operations_in : List SeatView → ℕ
operations_in seats = sum_by (λ seat. length seat.mine) seats
