-- What a running ledger keeps of its history: the counts, which seats are closed, and what became of each number.
use Rattle.std.specs.Prelude.{◌≡◌, ℕ, ◌+◌, ◌-◌, ◌<◌, ◌≤◌, ◌↔◌, Bool, true, false, nat_lt, if◌then◌else◌}
use Rattle.std.specs.Prelude.{List, [], ◌∷◌, ◌++◌, length, replicate, slice_set}
use Rattle.std.specs.List.{slice_index_or}
use Rattle.journal_core.specs.declared.entry.Way.TheVariants.{Sealed, Void}
use Rattle.journal_core.specs.declared.entry.Event.{Event}
use Rattle.journal_core.specs.declared.entry.Event.TheVariants.{Granted, Exhausted, Settled}
use Rattle.journal_core.specs.declared.entry.Entry.{Entry}
use Rattle.journal_core.specs.declared.entry.Tally.{Tally}
use Rattle.journal_core.specs.declared.standing.Issued.{Issued}
use Rattle.journal_core.specs.History.{Terms, refused, granted, calls_of, times_granted, times_settled, tally_of}

pub record StandingView : Type 0 where
  pub terms : Terms
  pub tally : Tally
  -- for each seat, whether it is closed
  pub closed : List Bool
  -- for each number issued, in order, its seat and whether it is settled
  pub numbers : List Issued

abbrev pub issued : ℕ → Bool → Issued
issued seat settled = record { seat = seat; settled = settled }

abbrev pub is_closed : StandingView → ℕ → Bool
is_closed standing seat = slice_index_or standing.closed seat false

-- the k-th number that was issued, counted from 0
abbrev pub number_at : StandingView → ℕ → Issued
number_at standing k = slice_index_or standing.numbers k (issued 64 true)

abbrev pub standing_of : Terms → Tally → List Bool → List Issued → StandingView
standing_of terms tally closed numbers = record { terms = terms; tally = tally; closed = closed; numbers = numbers }

-- nothing has happened yet
abbrev pub fresh : Terms → StandingView
fresh terms = standing_of terms (record { granted = 0; refused = 0; sealed = 0; void = 0 }) (replicate 64 false) []

-- the reply to the next issue
abbrev pub answer_of : StandingView → Event
answer_of standing =
    if nat_lt (length standing.numbers) standing.terms.range.size
    then Granted (standing.terms.range.lo + length standing.numbers) else Exhausted

-- the seat may make this call and get this reply
abbrev pub CanReply : StandingView → ℕ → Event → Type 0
CanReply standing seat (Granted n) =
    (length standing.numbers < standing.terms.range.size) × (n ≡ standing.terms.range.lo + length standing.numbers)
    × (is_closed standing seat ≡ false)
CanReply standing seat Exhausted =
    (length standing.numbers ≡ standing.terms.range.size) × (is_closed standing seat ≡ false)
CanReply standing seat (Settled n way) =
    let k = n - standing.terms.range.lo in
    (standing.terms.range.lo ≤ n) × (k < length standing.numbers) × (number_at standing k ≡ issued seat false)

abbrev pub CanFollow : StandingView → Entry → Type 0
CanFollow standing e = (e.seat < standing.terms.seats) × CanReply standing e.seat e.event

-- the greatest count that fits in 32 bits
abbrev pub most_tally : ℕ
most_tally = 4294967295

-- no count is at its maximum
pub record IsSmall (tally : Tally) : Type 0 where
  pub granted : tally.granted < most_tally
  pub refused : tally.refused < most_tally
  pub sealed : tally.sealed < most_tally
  pub void : tally.void < most_tally

abbrev pub tally_after : Tally → Event → Tally
tally_after tally (Granted n) = record tally { granted = tally.granted + 1 }
tally_after tally Exhausted = record tally { refused = tally.refused + 1 }
tally_after tally (Settled n Sealed) = record tally { sealed = tally.sealed + 1 }
tally_after tally (Settled n Void) = record tally { void = tally.void + 1 }

-- the state after one more operation
abbrev pub after : StandingView → ℕ → Event → StandingView
after standing seat (Granted n) =
    standing_of standing.terms (tally_after standing.tally (Granted n)) standing.closed
    (standing.numbers ++ issued seat false ∷ [])
after standing seat Exhausted =
    standing_of standing.terms (tally_after standing.tally Exhausted) (slice_set standing.closed seat true)
    standing.numbers
after standing seat (Settled n way) =
    standing_of standing.terms (tally_after standing.tally (Settled n way)) standing.closed
    (slice_set standing.numbers (n - standing.terms.range.lo) (issued seat true))

-- the state is what this history left
pub record Tracks (standing : StandingView) (history : List Entry) : Type 0 where
  pub tally : standing.tally ≡ tally_of history
  pub seats : length standing.closed ≡ 64
  pub closed : (seat : ℕ) → seat < 64 → is_closed standing seat ≡ nat_lt 0 (refused (calls_of seat history))
  pub count : length standing.numbers ≡ granted history
  pub seat : (k seat : ℕ) → k < granted history
      → (number_at standing k).seat ≡ seat ↔ (0 < times_granted (standing.terms.range.lo + k) (calls_of seat history))
  pub settled : (k : ℕ) → k < granted history
      → (number_at standing k).settled ≡ nat_lt 0 (times_settled (standing.terms.range.lo + k) history)
