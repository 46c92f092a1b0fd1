-- What a note of a key and a range says.
use Rattle.std.specs.Prelude.{◌≡◌, ℕ, List, []}
use Rattle.atomic_table.specs.Table.{State, Me, Step}
use Rattle.folder_core.specs.Record.{KeyedRange}
use Rattle.journal_core.specs.Range.{Numbers, range_of}
use Rattle.folder_tests.specs.declared.keyed.Noted.{Noted}

abbrev pub keyed_range : List ℕ → Numbers → KeyedRange
keyed_range key range = record { key = key; range = range }

-- The key and range that are noted.
abbrev pub keyed_of : Noted → KeyedRange
keyed_of noted = keyed_range noted.key noted.range

-- The note of a key and a range.
abbrev pub noted : KeyedRange → Noted
noted keyed = record { key = keyed.key; range = keyed.range }

-- A new note is of no key.
abbrev pub no_key : KeyedRange
no_key = keyed_range [] (range_of 0 0 0)

abbrev pub nothing : Unit {0} → Noted
nothing _ = noted no_key

-- Whatever is noted.
abbrev pub IsAnything : Unit {0} → State (Unit {0}) Noted → Type 0
IsAnything _ _ = Unit {0}

-- A step that notes a key and a range.
abbrev pub puts : KeyedRange → Step (Unit {0}) → Me (Unit {0}) Noted → ℕ → Me (Unit {0}) Noted → Type 0
puts keyed step old found new = (new.0 ≡ noted keyed) × (new.1 ≡ old.1)
