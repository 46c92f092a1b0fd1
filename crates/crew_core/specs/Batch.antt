-- What a batch returns for its jobs, and what it does to its seats.
use Rattle.std.specs.Prelude.{◌≡◌, ℕ, ◌<◌, nat_eq, List, [], ◌∷◌, ◌++◌, length, map, filter, slice_get, Some, ⊤}
use Rattle.std.specs.List.{flat_map}
use Rattle.container_core.specs.Container.{container}
use Rattle.container_core.specs.Shape.{ShapeView}
use Rattle.journal_core.specs.declared.entry.Way.TheVariants.{Sealed as AsSealed, Void as AsVoid}
use Rattle.journal_core.specs.declared.entry.Event.{Event}
use Rattle.journal_core.specs.declared.entry.Event.TheVariants.{Granted, Exhausted}
use Rattle.journal_core.specs.declared.entry.Entry.{Entry}
use Rattle.journal_core.specs.History.{Begins, entry}
use Rattle.journal_core.specs.Range.{prefix_of}
use Rattle.ledger_core.specs.declared.fault.IssueFault.{IssueFault}
use Rattle.ledger_core.specs.declared.fault.IssueFault.TheVariants.{Exhausted as NoNumber, SeatClosed}
use Rattle.ledger_core.specs.declared.fault.IssueFault.TheVariants.{OutOfMemory as NoMemory}
use Rattle.ledger_core.specs.Shared.{SeatView, Holds, IsClosedSeat, IsSameSeat}
use Rattle.crew_core.specs.declared.outcome.Outcome.{Outcome}
use Rattle.crew_core.specs.declared.outcome.Outcome.TheVariants.{Sealed, Spoiled, Unissued}

-- the place of the seat that an outcome names
abbrev pub seat_of : Outcome → ℕ
seat_of (Sealed seat bytes spent) = seat
seat_of (Spoiled seat spent) = seat
seat_of (Unissued seat fault) = seat

-- the issue that a fault comes from: NoNumber is one, the other faults come before any
abbrev pub refusal_of : IssueFault → List Event
refusal_of NoNumber = Exhausted ∷ []
refusal_of SeatClosed = []
refusal_of NoMemory = []

-- the issue that an outcome names, if it names one
abbrev pub issue_of : Outcome → List Event
issue_of (Sealed seat bytes spent) = Granted spent.number ∷ []
issue_of (Spoiled seat spent) = Granted spent.number ∷ []
issue_of (Unissued seat fault) = refusal_of fault

-- the issues that outcomes name, as the operations of the seat of this number, in the order of the outcomes
abbrev pub issues : ℕ → List Outcome → List Entry
issues number outcomes = map (entry number) (flat_map issue_of outcomes)

-- the outcomes that name the seat at this place
abbrev pub of_seat : ℕ → List Outcome → List Outcome
of_seat place outcomes = filter (λ o. nat_eq (seat_of o) place) outcomes

-- the outcome is one of this job: its container in a shape, under the prefix of a number spent as sealed; or a number
-- spent as void; or no number
abbrev pub IsOutcome : List ℕ → ShapeView → List ℕ → Outcome → Type 0
IsOutcome key shape job (Sealed seat bytes spent) =
    (bytes.items ≡ container key shape (prefix_of spent.device spent.number) job) × (spent.way ≡ AsSealed)
IsOutcome key shape job (Spoiled seat spent) = spent.way ≡ AsVoid
IsOutcome key shape job (Unissued seat fault) = ⊤

-- one outcome for each job, in the order of the jobs
pub record AreOutcomes (key : List ℕ) (shape : ShapeView)
    (jobs : List (List ℕ)) (outcomes : List Outcome) : Type 0 where
  pub count : length outcomes ≡ length jobs
  pub each : (n : ℕ) (job : List ℕ) (o : Outcome) → slice_get jobs n ≡ Some job
      → slice_get outcomes n ≡ Some o → IsOutcome key shape job o

-- what a fault says of the seat: one that got no number, or is closed, has reached the end of the range
abbrev pub IsFaultAt : SeatView → IssueFault → Type 0
IsFaultAt seat NoNumber = IsClosedSeat seat
IsFaultAt seat SeatClosed = IsClosedSeat seat
IsFaultAt seat NoMemory = ⊤

-- what an outcome says of its seat: the number that was spent is open there
abbrev pub IsAt : SeatView → Outcome → Type 0
IsAt seat (Sealed place bytes spent) = Holds seat spent
IsAt seat (Spoiled place spent) = Holds seat spent
IsAt seat (Unissued place fault) = IsFaultAt seat fault

-- the outcome names one of the first `lanes` seats, and what it says of that seat holds
abbrev pub IsAmong : ℕ → List SeatView → Outcome → Type 0
IsAmong lanes seats o =
    (seat_of o < lanes) × ((seat : SeatView) × (slice_get seats (seat_of o) ≡ Some seat) × IsAt seat o)

-- each outcome names one of the first `lanes` seats, and what it says of that seat holds
abbrev pub AreAmong : ℕ → List SeatView → List Outcome → Type 0
AreAmong lanes seats outcomes = (n : ℕ) (o : Outcome) → slice_get outcomes n ≡ Some o → IsAmong lanes seats o

-- each seat's own operations have grown by the issues of its outcomes, each once and in the order of their jobs
abbrev pub AreIssued : List SeatView → List SeatView → List Outcome → Type 0
AreIssued old new outcomes = (i : ℕ) (v w : SeatView) → slice_get old i ≡ Some v → slice_get new i ≡ Some w
    → w.mine ≡ v.mine ++ issues v.number (of_seat i outcomes)

-- each seat is still itself, and what it has seen goes on from before
abbrev pub GoOn : List SeatView → List SeatView → Type 0
GoOn old new = (i : ℕ) (v w : SeatView) → slice_get old i ≡ Some v → slice_get new i ≡ Some w
    → IsSameSeat v w × Begins v.seen w.seen
