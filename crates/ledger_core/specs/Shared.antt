-- The shared ledger as its callers see it: each seat's ledger, range, number, what it has seen, and its own operations.
use Rattle.std.specs.Prelude.{◌≡◌, ◌⊎◌, ℕ, zero, suc, ◌<◌, List, [], ◌∷◌, ◌++◌}
use Rattle.atomic_table.specs.Seated.{TableId}
use Rattle.journal_core.specs.declared.entry.Way.{Way}
use Rattle.journal_core.specs.declared.entry.Event.{Event}
use Rattle.journal_core.specs.declared.entry.Event.TheVariants.{Exhausted}
use Rattle.journal_core.specs.declared.entry.Entry.{Entry}
use Rattle.ledger_core.specs.declared.fault.OpenLedgerFault.{OpenLedgerFault}
use Rattle.ledger_core.specs.declared.fault.OpenLedgerFault.TheVariants.{BadSeats, OutOfMemory as NotOpened}
use Rattle.ledger_core.specs.declared.fault.IssueFault.{IssueFault}
use Rattle.ledger_core.specs.declared.fault.IssueFault.TheVariants.{SeatClosed, OutOfMemory as NotIssued}
use Rattle.ledger_core.specs.declared.fault.IssueFault.TheVariants.{Exhausted as NoNumber}
use Rattle.ledger_core.specs.declared.fault.SettleFault.{SettleFault}
use Rattle.ledger_core.specs.declared.fault.SettleFault.TheVariants.{NotOpen, OutOfMemory as NotSettled}
use Rattle.journal_core.specs.declared.terms.Terms.{Terms}
use Rattle.journal_core.specs.History.{IsLawful, Legal, entry, calls_of, refused, times_granted, times_settled}
use Rattle.journal_core.specs.History.{Begins}

-- which ledger it is. Clauses only compare it: a seat belongs to the ledger that has its id. No clause says that two
-- ledgers have different ids.
abbrev pub LedgerId : Type 0
LedgerId = TableId

pub record LedgerView : Type 0 where
  pub ledger : LedgerId
  pub terms : Terms

-- a seat: the history that it has seen, and its own operations
pub record SeatView : Type 0 where
  pub ledger : LedgerId
  pub terms : Terms
  pub number : ℕ
  pub seen : List Entry
  pub mine : List Entry

abbrev pub seat_view : LedgerId → Terms → ℕ → List Entry → List Entry → SeatView
seat_view ledger terms number seen mine =
    record { ledger = ledger; terms = terms; number = number; seen = seen; mine = mine }

-- a note: what a seat of this ledger had seen
pub record NoteView : Type 0 where
  pub ledger : LedgerId
  pub seen : List Entry

-- a number that was granted
pub record GrantView : Type 0 where
  pub device : ℕ
  pub number : ℕ

-- a number that was granted, and how it ended
pub record SpentView : Type 0 where
  pub device : ℕ
  pub number : ℕ
  pub way : Way

-- the grant's number, which ended this way
abbrev pub spent_as : GrantView → Way → SpentView
spent_as grant way = record { device = grant.device; number = grant.number; way = way }

-- a seat of a new ledger: it has seen nothing and done nothing
abbrev pub fresh_seat : LedgerId → Terms → ℕ → SeatView
fresh_seat ledger terms number = seat_view ledger terms number [] []

-- the first n seats of a new ledger, in the order of their numbers
abbrev pub fresh_seats : LedgerId → Terms → ℕ → List SeatView
fresh_seats ledger terms zero = []
fresh_seats ledger terms (suc n) = fresh_seats ledger terms n ++ fresh_seat ledger terms n ∷ []

-- what holds of every seat: what it has seen is legal, and contains exactly its own operations as this seat's entries
pub record Knows (seat : SeatView) : Type 0 where
  pub lawful : IsLawful seat.terms
  pub inside : seat.number < seat.terms.seats
  pub legal : Legal seat.terms seat.seen
  pub own : calls_of seat.number seat.seen ≡ seat.mine

-- one operation: what the seat has seen is extended and ends with the new entry, which is also appended to its own
-- operations
abbrev pub Extends : SeatView → Event → SeatView → Type 0
Extends old event new =
    (between : List Entry)
    × (new ≡ record old {
      seen = (old.seen ++ between) ++ entry old.number event ∷ [];
      mine = old.mine ++ entry old.number event ∷ [];
    })

-- a look: what the seat has seen is extended, and its own operations stay the same
abbrev pub Sees : SeatView → SeatView → Type 0
Sees old new = (between : List Entry) × (new ≡ record old { seen = old.seen ++ between })

-- any two seats of a ledger: what one has seen is a prefix of what the other has, and what one has seen of the other is
-- a prefix of the other's own operations
pub record Agree (one other : SeatView) : Type 0 where
  pub history : Begins one.seen other.seen ⊎ Begins other.seen one.seen
  pub of_other : Begins (calls_of other.number one.seen) other.mine
  pub of_one : Begins (calls_of one.number other.seen) one.mine

-- an issue at the seat found no number left
abbrev pub IsClosedSeat : SeatView → Type 0
IsClosedSeat seat = 0 < refused seat.mine

-- the number is of the seat's device, and the seat's own operations granted it and did not settle it
abbrev pub Holds : SeatView → SpentView → Type 0
Holds seat spent =
    (spent.device ≡ seat.terms.range.device)
    × (0 < times_granted spent.number seat.mine) × (times_settled spent.number seat.mine ≡ 0)

-- why an issue granted no number
abbrev pub Unissued : IssueFault → SeatView → SeatView → Type 0
Unissued SeatClosed old new = IsClosedSeat old × (new ≡ old)
Unissued NotIssued old new = ¬ (IsClosedSeat old) × (new ≡ old)
Unissued NoNumber old new = ¬ (IsClosedSeat old) × Extends old Exhausted new

-- why a number was not settled: the seat doesn't hold it. Running out of memory is not possible.
abbrev pub Unsettled : SettleFault → SeatView → SpentView → Type 0
Unsettled NotOpen seat spent = ¬ (Holds seat spent)
Unsettled NotSettled seat spent = ⊥

-- the same seat of the same ledger
pub record IsSameSeat (old new : SeatView) : Type 0 where
  pub ledger : new.ledger ≡ old.ledger
  pub terms : new.terms ≡ old.terms
  pub number : new.number ≡ old.number

-- the numbers of the faults

abbrev pub open_fault_number : OpenLedgerFault → ℕ
open_fault_number BadSeats = 25
open_fault_number NotOpened = 23

abbrev pub issue_fault_number : IssueFault → ℕ
issue_fault_number NoNumber = 20
issue_fault_number SeatClosed = 21
issue_fault_number NotIssued = 23

abbrev pub settle_fault_number : SettleFault → ℕ
settle_fault_number NotOpen = 22
settle_fault_number NotSettled = 23
