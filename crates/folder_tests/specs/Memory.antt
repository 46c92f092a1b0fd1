-- The record that a folder in memory keeps.
use Rattle.std.specs.Prelude.{◌≡◌, ℕ, Bool, true, false, List, [], map, Option, None, Some, string_bytes}
use Rattle.journal_core.specs.Range.{Numbers, range_of}
use Rattle.folder_core.specs.Record.{Entry, KeyedRange, RunRecord, State}
use Rattle.folder_core.specs.Record as run
use Rattle.folder_core.specs.Changes.{Becomes, with_entry}
use Rattle.folder_tests.specs.declared.pages.File.{File}
use Rattle.folder_tests.specs.declared.pages.Mark.{Mark}
use Rattle.folder_tests.specs.declared.pages.Mark.TheVariants.{Open, Finished, GivenUp}
use Rattle.folder_tests.specs.declared.pages.MemoryEntry.{MemoryEntry}
use Rattle.folder_tests.specs.declared.pages.MemoryEntry.TheVariants.{Read, Unread, Repeated, Unrepeated, Closed, Refused, Created}
use Rattle.folder_tests.specs.declared.pages.Pages.{Pages}
use Rattle.folder_tests.specs.declared.pages.Under.{Under}
use Rattle.folder_tests.specs.declared.pages.Under.TheVariants.{Unkeyed, Fixed, Given}
use Rattle.folder_tests.specs.Keyed.{keyed_of, keyed_range}
use Rattle.folder_tests.specs.Noted.{content_of}

abbrev pub state_of : Mark → State
state_of Open = run.Open
state_of Finished = run.Finished
state_of GivenUp = run.GivenUp

abbrev pub output_of : File → run.Output
output_of file = record {
  name = string_bytes file.name;
  content = content_of file.note.mark.me.0;
  bytes = file.bytes.items;
  failures = file.failures;
  state = state_of file.mark;
}

abbrev pub entry_of : MemoryEntry → Entry
entry_of (Read name bytes) = run.Happened (run.Read (string_bytes name) bytes.items)
entry_of (Unread name) = run.Happened (run.Unread (string_bytes name))
entry_of (Repeated name bytes) = run.Happened (run.Repeated (string_bytes name) bytes.items)
entry_of (Unrepeated name) = run.Happened (run.Unrepeated (string_bytes name))
entry_of (Closed name failures) = run.Happened (run.Closed (string_bytes name) failures)
entry_of (Refused name fault) = run.Happened (run.Refused (string_bytes name) fault)
entry_of (Created file) = run.Created (output_of file)

-- The key and range of a run's containers, if there are any yet.
abbrev pub under_of : Under → Option KeyedRange
under_of Unkeyed = None
under_of (Fixed secret device lo size) = Some (keyed_range secret (range_of device lo size))
under_of (Given note) = Some (keyed_of note.mark.me.0)

abbrev pub record_of : Pages → RunRecord
record_of pages = record {
  under = under_of pages.under;
  entries = map entry_of pages.entries.items;
  in_hand = pages.in_hand;
}

-- The record, unless it was forgotten.
abbrev pub rest_by : Bool → RunRecord → Option RunRecord
rest_by true r = Some r
rest_by false r = None

abbrev pub rest_of : Pages → Option RunRecord
rest_of pages = rest_by pages.told (record_of pages)

-- One more entry, if there was memory for it; else all is forgotten.
abbrev pub Notes : Option MemoryEntry → Option RunRecord → Option RunRecord → Type 0
Notes None before after = after ≡ None
Notes (Some entry) before after = Becomes (with_entry (entry_of entry)) before after

-- The entry of a file of this name that was closed, after so many failed calls.
abbrev pub IsClosing : List ℕ → Option ℕ → MemoryEntry → Type 0
IsClosing name failures entry =
    (n : ℕ) × (failures ≡ Some n) × (entry_of entry ≡ run.Happened (run.Closed name n))

-- The record of a run that did nothing yet.
abbrev pub fresh : List ℕ → Numbers → RunRecord
fresh key range = record { under = Some (record { key = key; range = range }); entries = []; in_hand = None }

-- The same of a run that has no key yet.
abbrev pub unkeyed : RunRecord
unkeyed = record { under = None; entries = []; in_hand = None }
