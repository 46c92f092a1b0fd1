-- What a ledger may have done: the legal histories of a range and a number of seats.
use Rattle.std.specs.Prelude.{◌≡◌, ℕ, ◌+◌, ◌<◌, ◌≤◌, Bool, true, false, nat_eq, List, ◌∷◌, ◌++◌, count_by, filter, ⊤}
use Rattle.journal_core.specs.Range.{IsLawfulRange}
use Rattle.journal_core.specs.declared.entry.Way.TheVariants.{Sealed, Void}
use Rattle.journal_core.specs.declared.entry.Event.{Event}
use Rattle.journal_core.specs.declared.entry.Event.TheVariants.{Granted, Exhausted, Settled}
use Rattle.journal_core.specs.declared.entry.Entry.{Entry}
use Rattle.journal_core.specs.declared.entry.Tally.{Tally}
-- what a ledger is opened with: a range, and how many seats may issue and settle
pub use Rattle.journal_core.specs.declared.terms.Terms.{Terms}

-- a lawful range, and from 1 to 64 seats
pub record IsLawful (terms : Terms) : Type 0 where
  pub range : IsLawfulRange terms.range
  pub some_seats : 0 < terms.seats
  pub few_seats : terms.seats ≤ 64

abbrev pub entry : ℕ → Event → Entry
entry seat event = record { seat = seat; event = event }

-- tests of an entry

abbrev pub is_granted : Entry → Bool
is_granted e = elim e.event [ Granted n ↦ true | Exhausted ↦ false | Settled n way ↦ false ]

abbrev pub is_exhausted : Entry → Bool
is_exhausted e = elim e.event [ Granted n ↦ false | Exhausted ↦ true | Settled n way ↦ false ]

abbrev pub is_sealed : Entry → Bool
is_sealed e =
    elim e.event [ Granted n ↦ false | Exhausted ↦ false | Settled n way ↦ elim way [ Sealed ↦ true | Void ↦ false ] ]

abbrev pub is_void : Entry → Bool
is_void e =
    elim e.event [ Granted n ↦ false | Exhausted ↦ false | Settled n way ↦ elim way [ Sealed ↦ false | Void ↦ true ] ]

-- the entry grants this number
abbrev pub grants : ℕ → Entry → Bool
grants number e = elim e.event [ Granted n ↦ nat_eq number n | Exhausted ↦ false | Settled n way ↦ false ]

-- the entry settles this number
abbrev pub settles : ℕ → Entry → Bool
settles number e = elim e.event [ Granted n ↦ false | Exhausted ↦ false | Settled n way ↦ nat_eq number n ]

-- counts of a history

abbrev pub granted : List Entry → ℕ
granted history = count_by is_granted history

abbrev pub refused : List Entry → ℕ
refused history = count_by is_exhausted history

abbrev pub sealed : List Entry → ℕ
sealed history = count_by is_sealed history

abbrev pub voided : List Entry → ℕ
voided history = count_by is_void history

abbrev pub tally_of : List Entry → Tally
tally_of history =
    record { granted = granted history; refused = refused history; sealed = sealed history; void = voided history }

-- how often this number was granted, and settled
abbrev pub times_granted : ℕ → List Entry → ℕ
times_granted number history = count_by (grants number) history

abbrev pub times_settled : ℕ → List Entry → ℕ
times_settled number history = count_by (settles number) history

-- the entries of a seat, in order
abbrev pub calls_of : ℕ → List Entry → List Entry
calls_of seat history = filter (λ e. nat_eq e.seat seat) history

-- an issue at the seat found no number left, so the seat is closed for issue
abbrev pub IsClosed : ℕ → List Entry → Type 0
IsClosed seat history = 0 < refused (calls_of seat history)

-- the number was granted to the seat and is not settled
abbrev pub IsOpen : ℕ → ℕ → List Entry → Type 0
IsOpen seat number history = (0 < times_granted number (calls_of seat history)) × (times_settled number history ≡ 0)

-- facts for one kind of event

abbrev pub IfGranted : Event → (ℕ → Type 0) → Type 0
IfGranted (Granted n) P = P n
IfGranted Exhausted P = ⊤
IfGranted (Settled n way) P = ⊤

abbrev pub OnExhausted : Event → Type 0 → Type 0
OnExhausted (Granted n) P = ⊤
OnExhausted Exhausted P = P
OnExhausted (Settled n way) P = ⊤

abbrev pub IsIssue : Event → Type 0
IsIssue (Granted n) = ⊤
IsIssue Exhausted = ⊤
IsIssue (Settled n way) = ⊥

abbrev pub OnIssue : Event → Type 0 → Type 0
OnIssue (Granted n) P = P
OnIssue Exhausted P = P
OnIssue (Settled n way) P = ⊤

abbrev pub IfSettled : Event → (ℕ → Type 0) → Type 0
IfSettled (Granted n) P = ⊤
IfSettled Exhausted P = ⊤
IfSettled (Settled n way) P = P n

-- the five conditions of a legal history, each on an entry and on the entries before it
pub record MayFollow (terms : Terms) (before : List Entry) (e : Entry) : Type 0 where
  -- the seat is one of the seats
  pub seat : e.seat < terms.seats
  -- the k-th number granted, counted from 0, is lo + k, and k is below size
  pub number : IfGranted e.event (λ n. (n ≡ terms.range.lo + granted before) × (granted before < terms.range.size))
  -- a refusal comes after exactly `size` grants
  pub exhausted : OnExhausted e.event (granted before ≡ terms.range.size)
  -- a seat that was refused issues no more
  pub closed : OnIssue e.event (refused (calls_of e.seat before) ≡ 0)
  -- a number is settled by the seat to which it was granted, once
  pub settled : IfSettled e.event (λ n. IsOpen e.seat n before)

-- a legal history: each entry may follow those before it
abbrev pub Legal : Terms → List Entry → Type 0
Legal terms history =
    (before : List Entry) (e : Entry) (after : List Entry) → history ≡ before ++ e ∷ after → MayFollow terms before e

-- a list is a prefix of another
abbrev pub Begins : List Entry → List Entry → Type 0
Begins front whole = (rest : List Entry) × (whole ≡ front ++ rest)
