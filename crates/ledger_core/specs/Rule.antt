-- The rule of the ledger's word: what always holds of the word and of what the seats know, and what each atomic step
-- reveals. There is one legal history. Each seat has seen a prefix of it, and the word has its three counts.
use Rattle.std.specs.Prelude.{◌≡◌, ℕ, ◌+◌, ◌-◌, ◌*◌, ◌/◌, ◌%◌, ◌<◌, ◌≤◌, List, [], ◌∷◌, ◌++◌, nat_lt, if◌then◌else◌}
use mathlib.Core.Option.{some}
use lib.ListN.{get_elem?}
use Rattle.atomic_table.specs.Table.{State, Me, Step}
use Rattle.atomic_table.specs.Seated.{TableId}
use Rattle.journal_core.specs.declared.entry.Way.{Way}
use Rattle.journal_core.specs.declared.entry.Event.{Event}
use Rattle.journal_core.specs.declared.entry.Event.TheVariants.{Granted, Exhausted, Settled}
use Rattle.journal_core.specs.declared.entry.Entry.{Entry}
use Rattle.ledger_core.specs.declared.table.View.{View}
use Rattle.journal_core.specs.Range.{range_of}
use Rattle.journal_core.specs.declared.terms.Terms.{Terms}
use Rattle.journal_core.specs.History.{IsLawful, Legal, Begins, calls_of, granted, refused, sealed, voided}
use Rattle.journal_core.specs.History.{times_granted, times_settled, entry}

-- what a settlement adds to the word: 2^20 as sealed, 2^40 as void. An issue adds 1
abbrev pub sealed_unit : ℕ
sealed_unit = 1048576

abbrev pub void_unit : ℕ
void_unit = 1099511627776

-- the three counts of a word
abbrev pub issues_of : ℕ → ℕ
issues_of word = word % sealed_unit

abbrev pub sealed_of : ℕ → ℕ
sealed_of word = (word / sealed_unit) % sealed_unit

abbrev pub void_of : ℕ → ℕ
void_of word = word / void_unit

-- the three counts of a history in one word
abbrev pub packed : List Entry → ℕ
packed history = (granted history + refused history) + sealed_unit * sealed history + void_unit * voided history

-- the view covers this seat
abbrev pub StandsFor : View → ℕ → Type 0
StandsFor view seat = (view.seat ≤ seat) × (seat < view.seat + view.width)

-- how one view fits the history
pub record Fits (opened : Terms) (history : List Entry) (view : View) : Type 0 where
  pub terms : 0 < view.width → view.terms ≡ opened
  pub seats : 0 < view.width → view.seat + view.width ≤ opened.seats
  pub seen : Begins view.seen history
  pub told : Begins view.told history
  pub own : 0 < view.width → calls_of view.seat history ≡ view.mine
  pub idle : (seat : ℕ) → view.seat < seat → seat < view.seat + view.width → calls_of seat history ≡ []

-- no two views cover one seat
abbrev pub Apart : List View → Type 0
Apart views =
    (i j seat : ℕ) (v w : View) → get_elem? views i ≡ some v → get_elem? views j ≡ some w
    → StandsFor v seat → StandsFor w seat → i ≡ j

-- the table has this history
pub record HasHistory (opened : Terms) (history : List Entry) (table : State (Unit {0}) View) : Type 0 where
  pub lawful : IsLawful opened
  pub legal : Legal opened history
  pub word : table.words ≡ packed history ∷ []
  pub fits : (i : ℕ) (v : View) → get_elem? table.views i ≡ some v → Fits opened history v
  pub apart : Apart table.views

abbrev pub IsKept : Terms → State (Unit {0}) View → Type 0
IsKept opened table = (history : List Entry) × HasHistory opened history table

-- the view of a seat that has seen this, made these operations, and heard this
abbrev pub knower : Terms → ℕ → List Entry → List Entry → List Entry → View
knower terms seat seen mine told =
    record { terms = terms; seat = seat; width = 1; seen = seen; mine = mine; told = told }

-- the first view covers all seats
abbrev pub newcomer : Terms → View
newcomer terms = record { terms = terms; seat = 0; width = terms.seats; seen = []; mine = []; told = [] }

-- the view after its seat added an entry to this history
abbrev pub added : View → List Entry → Entry → View
added view before e = record view { seen = before ++ e ∷ []; mine = view.mine ++ e ∷ [] }

-- the seat finds this history, through this word
pub record Finds (view : View) (word : ℕ) (history : List Entry) : Type 0 where
  pub further : Begins view.seen history
  pub told : Begins view.told history
  pub found : word ≡ packed history
  pub lawful : IsLawful view.terms
  pub legal : Legal view.terms history
  pub own : calls_of view.seat history ≡ view.mine

-- the seat added the entry to the history that it found, and has seen all of the result
abbrev pub Adds : View → ℕ → List Entry → Entry → View → Type 0
Adds view found history e after =
    Finds view found history × Legal view.terms (history ++ e ∷ []) × (after ≡ added view history e)

-- the reply to an issue after n grants
abbrev pub issue_reply : Terms → ℕ → Event
issue_reply terms n = if nat_lt n terms.range.size then Granted (terms.range.lo + n) else Exhausted

abbrev pub Mine : Type 0
Mine = Me (Unit {0}) View

-- an issue that found this word
abbrev pub Issues : View → ℕ → View → Type 0
Issues view found after =
    (history : List Entry)
    × Adds view found history (entry view.seat (issue_reply view.terms (granted history))) after

-- the seat settled this number in this way
abbrev pub Settles : ℕ → Way → View → ℕ → View → Type 0
Settles number way view found after =
    (history : List Entry) × Adds view found history (entry view.seat (Settled number way)) after

-- the seat has seen the history so far
abbrev pub Looks : View → ℕ → View → Type 0
Looks view found after = (history : List Entry) × Finds view found history × (after ≡ record view { seen = history })

-- the seat has seen what it heard, and no more
abbrev pub Adopts : View → ℕ → View → Type 0
Adopts view found after = (history : List Entry) × Finds view found history × (after ≡ record view { seen = view.told })

abbrev pub issued : Step (Unit {0}) → Mine → ℕ → Mine → Type 0
issued step old found new = Issues old.0 found new.0 × (new.1 ≡ old.1)

abbrev pub settled : ℕ → Way → Step (Unit {0}) → Mine → ℕ → Mine → Type 0
settled number way step old found new = Settles number way old.0 found new.0 × (new.1 ≡ old.1)

abbrev pub looked : Step (Unit {0}) → Mine → ℕ → Mine → Type 0
looked step old found new = Looks old.0 found new.0 × (new.1 ≡ old.1)

abbrev pub adopted : Step (Unit {0}) → Mine → ℕ → Mine → Type 0
adopted step old found new = Adopts old.0 found new.0 × (new.1 ≡ old.1)

-- the token may step: it is of this word, and covers one seat
pub record MayStep (word token : TableId) (me : Mine) : Type 0 where
  pub same : token ≡ word
  pub one_word : word.words ≡ 1
  pub one_seat : me.0.width ≡ 1

-- the number is open among a seat's own operations
pub record IsHeld (number : ℕ) (mine : List Entry) : Type 0 where
  pub granted : 0 < times_granted number mine
  pub unsettled : times_settled number mine ≡ 0

-- splits and joins

-- the first of the seats that a view covers, and the others
abbrev pub first_seat : View → View
first_seat view = record view { width = 1 }

abbrev pub other_seats : View → View
other_seats view = record view { seat = view.seat + 1; width = view.width - 1 }

-- a note of what was seen; it covers no seat
abbrev pub note_of : View → View
note_of view = record view { width = 0; mine = []; told = [] }

-- the seat hears what a note shows
abbrev pub hears : View → View → View
hears view note = record view { told = note.seen }

-- what is left of a note that was heard
abbrev pub nobody : View
nobody = record {
  terms = record { range = range_of 0 0 0; seats = 0 };
  seat = 0;
  width = 0;
  seen = [];
  mine = [];
  told = [];
}
