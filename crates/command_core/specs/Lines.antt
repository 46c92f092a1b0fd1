-- The lines of a command: what it prints for each file, and its exit status.
use Rattle.std.specs.Prelude.{ℕ, Bool, true, false, if◌then◌else◌, List, ◌∷◌, ◌++◌, map, codes}
use Rattle.std.specs.Fmt.{decimal}
use Rattle.std.specs.List.{list_any}
use Rattle.container_core.specs.Faults.{open_text, seal_text}
use Rattle.journal_core.specs.Text.{ended_lines}
use Rattle.command_core.specs.declared.line.FileFault.{FileFault}
use Rattle.command_core.specs.declared.line.FileFault.TheVariants.{CannotOpen, NoSuffix, OutputExists, CannotCreate}
use Rattle.command_core.specs.declared.line.FileFault.TheVariants.{OutOfMemory, NoNumber, AnotherLabel, Unopened}
use Rattle.command_core.specs.declared.line.FileFault.TheVariants.{Unsealed, Changed, SpoolFailed}
use Rattle.command_core.specs.declared.line.FileOutcome.{FileOutcome}
use Rattle.command_core.specs.declared.line.FileOutcome.TheVariants.{Sealed, Opened, Good, Shown, Failed}
use Rattle.command_core.specs.Facts.{facts_text}

-- a file's name, and what became of the file
pub record FileLine : Type 0 where
  pub name : List ℕ
  pub outcome : FileOutcome

abbrev pub fault_text : FileFault → List ℕ
fault_text CannotOpen = codes "cannot open"
fault_text NoSuffix = codes "name does not end in .stm"
fault_text OutputExists = codes "output exists"
fault_text CannotCreate = codes "cannot create"
fault_text OutOfMemory = codes "out of memory"
fault_text NoNumber = codes "no file number"
fault_text AnotherLabel = codes "another label"
fault_text Changed = codes "changed while it was opened"
fault_text SpoolFailed = codes "spool failed"
fault_text (Unopened fault) = open_text fault
fault_text (Unsealed fault) = seal_text fault

-- `sealed FILE file NUMBER bytes N`, `opened FILE bytes N`, `good FILE bytes N` or `failed FILE: FAULT`; N counts the
-- plaintext
abbrev pub line_text : List ℕ → FileOutcome → List ℕ
line_text name (Sealed number bytes) =
    codes "sealed " ++ name ++ codes " file " ++ decimal number ++ codes " bytes " ++ decimal bytes
line_text name (Opened bytes) = codes "opened " ++ name ++ codes " bytes " ++ decimal bytes
line_text name (Good bytes) = codes "good " ++ name ++ codes " bytes " ++ decimal bytes
line_text name (Shown bytes facts) =
    codes "good " ++ name ++ codes " bytes " ++ decimal bytes ++ 10 ∷ facts_text facts
line_text name (Failed fault) = codes "failed " ++ name ++ codes ": " ++ fault_text fault

-- the lines, each ended by a line feed
abbrev pub lines_text : List FileLine → List ℕ
lines_text lines = ended_lines (map (λ line. line_text line.name line.outcome) lines)

abbrev pub is_failed : FileOutcome → Bool
is_failed (Sealed number bytes) = false
is_failed (Opened bytes) = false
is_failed (Good bytes) = false
is_failed (Shown bytes facts) = false
is_failed (Failed fault) = true

-- the exit status if every line was written: 1 if some file failed, else 0
abbrev pub status_of_lines : List FileLine → ℕ
status_of_lines lines = if list_any (λ line. is_failed line.outcome) lines then 1 else 0
