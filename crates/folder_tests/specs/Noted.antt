-- What a note of a content says.
use Rattle.std.specs.Prelude.{◌≡◌, ℕ}
use Rattle.atomic_table.specs.Table.{State, Me, Step}
use Rattle.folder_core.specs.Record.{Content}
use Rattle.folder_core.specs.Record as run
use Rattle.folder_tests.specs.declared.note.Noted.{Noted}
use Rattle.folder_tests.specs.declared.note.Noted.TheVariants.{Nothing, Container, Plain, Checked}

-- The content that is noted.
abbrev pub content_of : Noted → Content
content_of Nothing = run.Nothing
content_of (Container number shape) = run.Container number shape
content_of (Plain key whole) = run.Plain key whole
content_of (Checked key header last) = run.Checked key header last

-- The note of a content.
abbrev pub noted : Content → Noted
noted run.Nothing = Nothing
noted (run.Container number shape) = Container number shape
noted (run.Plain key whole) = Plain key whole
noted (run.Checked key header last) = Checked key header last

-- A new note says that an output may hold nothing yet.
abbrev pub nothing : Unit {0} → Noted
nothing _ = Nothing

-- Whatever is noted.
abbrev pub IsAnything : Unit {0} → State (Unit {0}) Noted → Type 0
IsAnything _ _ = Unit {0}

-- A step that notes a content.
abbrev pub puts : Content → Step (Unit {0}) → Me (Unit {0}) Noted → ℕ → Me (Unit {0}) Noted → Type 0
puts content step old found new = (new.0 ≡ noted content) × (new.1 ≡ old.1)
