-- The record of a run: what was read, what was refused and what its outputs hold, in one list, at any moment.
use Rattle.std.specs.Prelude.{⊤, ◌≡◌, ℕ, suc, ◌+◌, ◌<◌, ◌≤◌, Bool, false, nat_eq, List, [], count_by, length, take}
use Rattle.std.specs.Prelude.{slice_get, Option, None, Some, IfSome, option_map, Ok}
use Rattle.std.specs.List.{AllByRecursion}
use Rattle.container_core.specs.Container.{header_length}
use Rattle.container_core.specs.Opening.{opening}
use Rattle.container_core.specs.Shape.{IsShape, ShapeView}
use Rattle.journal_core.specs.Range.{Numbers, prefix_of}
use Rattle.output_core.specs.Bounds.{Allows, Bound, Exactly, IsWithin}
use Rattle.output_core.specs.Bounds as bounds
use Rattle.folder_core.specs.declared.fault.FolderFault.{FolderFault}

-- ---- the record

-- What an output may hold: nothing yet; the container of some plaintext, under a number and in a shape; a plaintext,
-- opened under a key; or what is opened of these bytes, as far as its chunks are checked, under a key and a header.
pub data Content : Type 0 where
  Nothing : Content
  Container : ℕ → ShapeView → Content
  Plain : List ℕ → List ℕ → Content
  Checked : List ℕ → List ℕ → List ℕ → Content

-- Whether an output waits or is written, was finished, or was given up.
pub data State : Type 0 where
  Open : State
  Finished : State
  GivenUp : State

-- An output: its name, what it may hold, its bytes, how many writes to it failed (a refused end is one), and its state.
pub record Output : Type 0 where
  pub name : List ℕ
  pub content : Content
  pub bytes : List ℕ
  pub failures : ℕ
  pub state : State

-- A file was opened and has these bytes, or it could not be. It was set back to its first byte and has these bytes now,
-- or that failed. It was closed, after so many calls of its reader had failed. An output was refused, for this cause.
pub data Event : Type 0 where
  Read : List ℕ → List ℕ → Event
  Unread : List ℕ → Event
  Repeated : List ℕ → List ℕ → Event
  Unrepeated : List ℕ → Event
  Closed : List ℕ → ℕ → Event
  Refused : List ℕ → FolderFault → Event

-- What happened, or an output that was created.
pub data Entry : Type 0 where
  Happened : Event → Entry
  Created : Output → Entry

-- A key, and the range of numbers under which containers are sealed with it.
pub record KeyedRange : Type 0 where
  pub key : List ℕ
  pub range : Numbers

-- The record of a run: the key and range of its containers, if it has any; its entries, in order; and the place of the
-- output in hand, if one is. The bytes of that one are known apart, and are in its entry once it is closed.
pub record RunRecord : Type 0 where
  pub under : Option KeyedRange
  pub entries : List Entry
  pub in_hand : Option ℕ

-- ---- what an output may hold

-- This plaintext is what a file that was read opens to under the key.
abbrev pub WasRead : List Entry → List ℕ → List ℕ → Type 0
WasRead entries key whole = (place : ℕ) × (name : List ℕ) × (bytes : List ℕ) × (most : ℕ)
    × (slice_get entries place ≡ Some (Happened (Read name bytes))) × (opening key most bytes ≡ Ok whole)

-- A file was read that opens under the key, and has this header. Right behind it was read again, and had these bytes.
abbrev pub WasReadAgain : List Entry → List ℕ → List ℕ → List ℕ → Type 0
WasReadAgain entries key header last = (place : ℕ) × (name : List ℕ) × (first : List ℕ) × (plain : List ℕ) × (most : ℕ)
    × (slice_get entries place ≡ Some (Happened (Read name first)))
    × (slice_get entries (suc place) ≡ Some (Happened (Repeated name last)))
    × (opening key most first ≡ Ok plain)
    × (header ≡ take (header_length first) first) × (header_length first ≤ length first)

-- The number is one of the range.
abbrev pub IsOfRange : Option KeyedRange → ℕ → Type 0
IsOfRange None number = ⊥
IsOfRange (Some under) number = (under.range.lo ≤ number) × (number < under.range.lo + under.range.size)

-- An output may have this content: a container's number is one of the range, and a plaintext was read.
abbrev pub IsAllowed : Option KeyedRange → List Entry → Content → Type 0
IsAllowed under entries Nothing = ⊤
IsAllowed under entries (Container number shape) = IsShape shape × IsOfRange under number
IsAllowed under entries (Plain key whole) = WasRead entries key whole
IsAllowed under entries (Checked key header last) = WasReadAgain entries key header last

-- The container of some plaintext, under this number of the range and in this shape; without a range, nothing.
abbrev pub container_bound : Option KeyedRange → ℕ → ShapeView → Bound
container_bound None number shape = Exactly []
container_bound (Some under) number shape =
    bounds.Container [] under.key shape (prefix_of under.range.device number)

-- The same, for any content.
abbrev pub bound_of : Option KeyedRange → Content → Bound
bound_of under Nothing = Exactly []
bound_of under (Container number shape) = container_bound under number shape
bound_of under (Plain key whole) = Exactly whole
bound_of under (Checked key header last) = bounds.Checked [] key header last

-- ---- the law

-- The entry's output has a content that it may have, and its bytes are a prefix of that.
abbrev pub Holds : Option KeyedRange → List Entry → Entry → Type 0
Holds under entries (Created output) =
    IsAllowed under entries output.content × Allows (bound_of under output.content) output.bytes
Holds under entries (Happened event) = ⊤

-- Whether an output of this content has the number.
abbrev pub has_number : ℕ → Content → Bool
has_number number Nothing = false
has_number number (Container other shape) = nat_eq number other
has_number number (Plain key whole) = false
has_number number (Checked key header last) = false

-- Whether the entry is an output that has the number.
abbrev pub begins : ℕ → Entry → Bool
begins number (Created output) = has_number number output.content
begins number (Happened event) = false

-- How many outputs have the number.
abbrev pub times_begun : ℕ → List Entry → ℕ
times_begun number entries = count_by (begins number) entries

-- Each output holds what it may, whether open, finished or given up, and no two have one number.
pub record IsSound (r : RunRecord) : Type 0 where
  pub each : AllByRecursion (Holds r.under r.entries) r.entries
  pub once : (number : ℕ) → times_begun number r.entries ≤ 1

-- ---- the output in hand

-- The content of an entry that is an output.
abbrev pub content_at : Option Entry → Content
content_at None = Nothing
content_at (Some (Created output)) = output.content
content_at (Some (Happened event)) = Nothing

-- The content of the output in hand.
abbrev pub content_in : List Entry → Option ℕ → Content
content_in entries None = Nothing
content_in entries (Some place) = content_at (slice_get entries place)

-- What the output in hand may hold.
abbrev pub bound_in : RunRecord → Bound
bound_in r = bound_of r.under (content_in r.entries r.in_hand)

-- A record that is known is sound, and what the output in hand took is what it may hold.
abbrev pub IsSoundWith : Option RunRecord → Option (List ℕ) → Type 0
IsSoundWith rest taken = IfSome rest IsSound × IsWithin (option_map bound_in rest) taken
