-- What each call of a folder changes in the record of its run.
use Rattle.std.specs.Prelude.{⊤, ◌≡◌, ◌⊎◌, ℕ, zero, suc, List, [], ◌∷◌, ◌++◌, codes, slice_get, Option, None, Some, IfSome}
use Rattle.journal_core.specs.Range.{Numbers}
use Rattle.folder_core.specs.Record.{Checked, Container, Content, Created, Entry, Event, Happened, IsAllowed, Nothing, Open}
use Rattle.folder_core.specs.Record.{Output, Plain, RunRecord, State, times_begun}

-- The record changed so, if it is still known. A folder may forget.
abbrev pub Becomes : (RunRecord → RunRecord) → Option RunRecord → Option RunRecord → Type 0
Becomes change before after = IfSome after (λ r. (was : RunRecord) × (before ≡ Some was) × (r ≡ change was))

-- ---- one more entry

-- The record with this entry after all others.
abbrev pub with_entry : Entry → RunRecord → RunRecord
with_entry entry r = record r { entries = r.entries ++ entry ∷ [] }

-- An output that was just created: it may hold nothing yet.
abbrev pub new_output : List ℕ → Output
new_output name = record { name = name; content = Nothing; bytes = []; failures = 0; state = Open }

-- This came last, if it is still known: a reader's or writer's count of failed calls is known then.
abbrev pub Tells : (ℕ → Event) → Option ℕ → Option RunRecord → Option RunRecord → Type 0
Tells event failures before after = IfSome after (λ _. (n : ℕ) × (failures ≡ Some n)
    × Becomes (with_entry (Happened (event n))) before after)

-- The same of bytes that a reader has to give.
abbrev pub TellsBytes : (List ℕ → Event) → Option (List ℕ) → Option RunRecord → Option RunRecord → Type 0
TellsBytes event left before after = IfSome after (λ _. (bytes : List ℕ) × (left ≡ Some bytes)
    × Becomes (with_entry (Happened (event bytes))) before after)

-- ---- the key

-- The record has this key now, and the range of its containers' numbers.
abbrev pub started : List ℕ → Numbers → RunRecord → RunRecord
started key range r = record r { under = Some (record { key = key; range = range }) }

-- It has no key yet, and nothing is in hand.
pub record IsUnstarted (r : RunRecord) : Type 0 where
  pub unkeyed : r.under ≡ None
  pub idle : r.in_hand ≡ None

-- ---- one output changes

-- The entry, if it is an output, changed by this function.
abbrev pub changed : (Output → Output) → Entry → Entry
changed f (Created output) = Created (f output)
changed f (Happened event) = Happened event

-- The entries, of which the output at this place is changed.
abbrev pub change : ℕ → (Output → Output) → List Entry → List Entry
change place f [] = []
change zero f (entry ∷ entries) = changed f entry ∷ entries
change (suc place) f (entry ∷ entries) = entry ∷ change place f entries

-- The output may have this content.
abbrev pub set_content : Content → Output → Output
set_content content output = record output { content = content }

-- The output holds these bytes.
abbrev pub set_bytes : List ℕ → Output → Output
set_bytes bytes output = record output { bytes = bytes }

-- The output was closed with these bytes, after so many failed writes.
abbrev pub set_closed : State → List ℕ → ℕ → Output → Output
set_closed state bytes failures output = record output { bytes = bytes; failures = failures; state = state }

-- The output at this place was taken in hand, with this content.
abbrev pub allowed : ℕ → Content → RunRecord → RunRecord
allowed place content r =
    record r { entries = change place (set_content content) r.entries; in_hand = Some place }

-- The output at this place was closed with these bytes, after so many failed writes, and none is in hand.
abbrev pub closed_at : ℕ → State → List ℕ → ℕ → RunRecord → RunRecord
closed_at place state bytes failures r =
    record r { entries = change place (set_closed state bytes failures) r.entries; in_hand = None }

-- The output in hand, if one is, was closed so.
abbrev pub closed_by : Option ℕ → State → List ℕ → ℕ → RunRecord → RunRecord
closed_by None state bytes failures r = r
closed_by (Some place) state bytes failures r = closed_at place state bytes failures r

abbrev pub closed : State → List ℕ → ℕ → RunRecord → RunRecord
closed state bytes failures r = closed_by r.in_hand state bytes failures r

-- The output in hand was closed with the bytes that it took, after so many failed writes.
abbrev pub Closes : State → Option RunRecord → Option (List ℕ) → Option ℕ → Option RunRecord → Type 0
Closes state before taken failures after = IfSome after (λ r. (was : RunRecord) × (bytes : List ℕ) × (n : ℕ)
    × (before ≡ Some was) × (taken ≡ Some bytes) × (failures ≡ Some n) × (r ≡ closed state bytes n was))

-- Nothing was taken, and no write failed.
abbrev pub IsFresh : Option RunRecord → Option (List ℕ) → Option ℕ → Type 0
IsFresh rest taken failures = IfSome rest (λ _. (taken ≡ Some []) × (failures ≡ Some 0))

-- Where the record isn't known: what was taken, and how many writes failed, is as it was.
abbrev pub IsKept : Option RunRecord → Option (List ℕ) → Option (List ℕ) → Option ℕ → Option ℕ → Type 0
IsKept None taken taken' failures failures' = (taken' ≡ taken) × (failures' ≡ failures)
IsKept (Some r) taken taken' failures failures' = ⊤

-- The whole record at a moment: the output in hand holds the bytes that it took.
abbrev pub whole_by : Option ℕ → List ℕ → RunRecord → RunRecord
whole_by None held r = r
whole_by (Some place) held r = record r { entries = change place (set_bytes held) r.entries }

abbrev pub whole : RunRecord → List ℕ → RunRecord
whole r held = whole_by r.in_hand held r

-- ---- what a caller shows

-- Nothing is in hand.
abbrev pub IsIdle : Option RunRecord → Type 0
IsIdle rest = IfSome rest (λ r. r.in_hand ≡ None)

-- Nothing is in hand, and the output at this place is new.
pub record IsNew (place : ℕ) (r : RunRecord) : Type 0 where
  pub name : List ℕ
  pub idle : r.in_hand ≡ None
  pub there : slice_get r.entries place ≡ Some (Created (new_output name))

-- the name of a stream, which is an output that stays in hand when its run ends
abbrev pub stream_name : List ℕ
stream_name = codes "-"

-- Nothing is in hand, and the output at this place is new, and a stream.
abbrev pub IsNewStream : ℕ → RunRecord → Type 0
IsNewStream place r = (new : IsNew place r) × (new.name ≡ stream_name)

-- Nothing is in hand but a stream.
abbrev pub HasStreamAlone : RunRecord → Type 0
HasStreamAlone r = (r.in_hand ≡ None) ⊎ ((place : ℕ) × (output : Output) × (r.in_hand ≡ Some place)
    × (slice_get r.entries place ≡ Some (Created output)) × (output.name ≡ stream_name))

-- No other output has the number of this content.
abbrev pub IsNumberFree : List Entry → Content → Type 0
IsNumberFree entries Nothing = ⊤
IsNumberFree entries (Container number shape) = times_begun number entries ≡ 0
IsNumberFree entries (Plain key whole) = ⊤
IsNumberFree entries (Checked key header last) = ⊤

-- This content may begin there: it is allowed, and no other output has its number.
pub record MayHold (place : ℕ) (content : Content) (r : RunRecord) : Type 0 where
  pub new : IsNew place r
  pub allowed : IsAllowed r.under r.entries content
  pub free : IsNumberFree r.entries content
