-- What the fields of a seat contain: its own log has its own operations in order, each with its index.
use Rattle.std.specs.Prelude.{◌≡◌, ℕ, ◌+◌, ◌-◌, ◌<◌, ◌≤◌, Bool, true, false, ◌&&◌, if◌then◌else◌, nat_eq}
use Rattle.std.specs.Prelude.{nat_lt, List, [], ◌∷◌, ◌++◌, length, map, slice_set, ⊤, Option, Some, None}
use Rattle.std.specs.List.{slice_index_or}
use Rattle.journal_core.specs.declared.entry.Event.{Event}
use Rattle.journal_core.specs.declared.entry.Event.TheVariants.{Granted, Exhausted, Settled}
use Rattle.journal_core.specs.declared.entry.Entry.{Entry}
use Rattle.ledger_core.specs.declared.table.Fields.{Fields}
use Rattle.ledger_core.specs.declared.table.Record.{Record}
use Rattle.ledger_core.specs.declared.table.View.{View}
use Rattle.journal_core.specs.declared.terms.Terms.{Terms}
use Rattle.journal_core.specs.History.{IsLawful, Legal, calls_of, refused, times_granted, times_settled}
use Rattle.ledger_core.specs.Rule.{Mine, issues_of, sealed_of, void_of}

-- the indexes of a seat's entries, if the list begins at index n
abbrev pub places_from : ℕ → ℕ → List Entry → List ℕ
places_from n seat [] = []
places_from n seat (e ∷ es) =
    if nat_eq e.seat seat then n ∷ places_from (n + 1) seat es else places_from (n + 1) seat es

abbrev pub recorded : Record → Entry
recorded r = r.entry

abbrev pub place_in : Record → ℕ
place_in r = r.place

-- the index of an entry that was added to a history with this word: the sum of its three counts
abbrev pub place_of_word : ℕ → ℕ
place_of_word n = issues_of n + sealed_of n + void_of n

-- the number is open among these operations
abbrev pub is_held : ℕ → List Entry → Bool
is_held number mine = nat_lt 0 (times_granted number mine) && nat_eq (times_settled number mine) 0

-- the number is in the range, and marked as held
abbrev pub IsMarked : Terms → List Bool → ℕ → Type 0
IsMarked terms held number =
    (terms.range.lo ≤ number) × (number - terms.range.lo < length held)
    × (slice_index_or held (number - terms.range.lo) false ≡ true)

-- the marks after an operation
abbrev pub held_after : ℕ → List Bool → Event → List Bool
held_after lo held (Granted n) = slice_set held (n - lo) true
held_after lo held Exhausted = held
held_after lo held (Settled n way) = slice_set held (n - lo) false

-- the event's number, if it has one, has a mark: set if the event settles it, not set if it grants it
abbrev pub HasMark : ℕ → List Bool → Event → Type 0
HasMark lo held (Granted n) = (lo ≤ n) × (n - lo < length held) × (slice_index_or held (n - lo) false ≡ false)
HasMark lo held Exhausted = ⊤
HasMark lo held (Settled n way) = (lo ≤ n) × (n - lo < length held) × (slice_index_or held (n - lo) false ≡ true)

-- A log has room for the event, if `used` records are used or owed to settlements. A grant needs its record and one for
-- its settlement. A settlement already has its record.
abbrev pub HasRoom : ℕ → ℕ → Event → Type 0
HasRoom used room (Granted n) = used + 2 ≤ room
HasRoom used room Exhausted = used + 1 ≤ room
HasRoom used room (Settled n way) = ⊤

-- the last operation in the log granted this number
abbrev pub EndsByGranting : ℕ → List Record → Type 0
EndsByGranting number log =
    (before : List Record) × (last : Record) × (log ≡ before ++ last ∷ []) × (last.entry.event ≡ Granted number)

-- the fields of a seat: record j of its log has entry j of its own operations, and that entry's index in what it has
-- seen
pub record IsSeat (opened : Terms) (seat : ℕ) (closed : Bool) (log : List Record) (held : List Bool) (me : Mine)
    : Type 0 where
  pub one_seat : me.0.width ≡ 1
  pub no_slots : me.1 ≡ []
  pub terms : me.0.terms ≡ opened
  pub number : me.0.seat ≡ seat
  pub inside : seat < opened.seats
  pub lawful : IsLawful opened
  pub legal : Legal opened me.0.seen
  pub own : calls_of seat me.0.seen ≡ me.0.mine
  pub entries : map recorded log ≡ me.0.mine
  pub places : map place_in log ≡ places_from 0 seat me.0.seen
  pub closed_is : closed ≡ nat_lt 0 (refused me.0.mine)
  pub all_held : length held ≡ opened.range.size
  pub held_is : (k : ℕ) → k < opened.range.size → slice_index_or held k false ≡ is_held (opened.range.lo + k) me.0.mine

abbrev pub AreFields : Fields → Type 0
AreFields f = IsSeat f.opening f.number f.own.closed f.own.log.items f.own.held.items f.token.me

-- the fields belong to the same seat of the same ledger
pub record AreSameSeat (old new : Fields) : Type 0 where
  pub opening : new.opening ≡ old.opening
  pub number : new.number ≡ old.number
  pub ledger : new.token.table_id ≡ old.token.table_id

-- what a seat has seen is extended and ends with this entry, and so are its own operations
abbrev pub Steps : View → Entry → View → Type 0
Steps view e after =
    (between : List Entry) × (after.seen ≡ (view.seen ++ between) ++ e ∷ []) × (after.mine ≡ view.mine ++ e ∷ [])

-- the event of an issue that granted this number, or none
abbrev pub event_of : Option ℕ → Event
event_of (Some n) = Granted n
event_of None = Exhausted

-- the seats of a new ledger that are left, from this one on
abbrev pub from_seat : Terms → ℕ → View
from_seat terms seat =
    record { terms = terms; seat = seat; width = terms.seats - seat; seen = []; mine = []; told = [] }
