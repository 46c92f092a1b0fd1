-- What a stretch of a run adds to its record: entries after all others, and nothing else.
use Rattle.std.specs.Prelude.{⊤, ◌≡◌, ℕ, List, [], ◌∷◌, ◌++◌, Option, None, Some}
use Rattle.folder_core.specs.Record.{Content, Created, Entry, RunRecord, State}
use Rattle.folder_core.specs.Changes.{allowed}

-- The record with these entries after all others.
abbrev pub with_entries : List Entry → RunRecord → RunRecord
with_entries new r = record r { entries = r.entries ++ new }

-- Entries of this kind came after those so far, if it is still known what came. What is in hand is the same.
abbrev pub Grows : (List Entry → Type 0) → Option RunRecord → Option RunRecord → Type 0
Grows kind before None = ⊤
Grows kind None (Some after) = ⊥
Grows kind (Some before) (Some after) = (new : List Entry) × kind new × (after ≡ with_entries new before)

-- The output at this place was taken in hand, if it got a content.
abbrev pub given : ℕ → Option Content → RunRecord → RunRecord
given place None r = r
given place (Some content) r = allowed place content r

-- The output at this place got this content, or none; and entries of this kind came. As far as it is still known.
abbrev pub GrowsGiving : ℕ → (List Entry → Option Content → Type 0) → Option RunRecord → Option RunRecord → Type 0
GrowsGiving place kind before None = ⊤
GrowsGiving place kind None (Some after) = ⊥
GrowsGiving place kind (Some before) (Some after) = (new : List Entry) × (content : Option Content) × kind new content
    × (after ≡ with_entries new (given place content before))

-- An output of this name and content was created, and closed with the bytes that it took, after so many failed writes.
abbrev pub PutsOut : List ℕ → Content → State → Option (List ℕ) → Option ℕ → List Entry → Type 0
PutsOut name content state taken failures new = (bytes : List ℕ) × (n : ℕ) × (taken ≡ Some bytes) × (failures ≡ Some n)
    × (new ≡ Created (record { name = name; content = content; bytes = bytes; failures = n; state = state }) ∷ [])
