-- What `open_all` and `verify_all` do with a list of files.
use Rattle.std.specs.Prelude.{◌≡◌, ◌≢◌, ◌⊎◌, ℕ, ◌-◌, ◌<◌, ◌≤◌, Bool, true, false, List, [], ◌++◌, length}
use Rattle.std.specs.Prelude.{take, ◌/◌, ◌^◌, min, max}
use Rattle.std.specs.Prelude.{⊤, Option, None, Some, option_map, codes, Result, Ok, Err}
use Rattle.container_core.specs.declared.fault.OpenFault.TheVariants.{Read, Write}
use Rattle.container_core.specs.declared.fault.OpenFault.TheVariants as bytes
use Rattle.container_core.specs.Faults.{IsOfBytes}
use Rattle.container_core.specs.Opening.{header_fault, opening}
use Rattle.opening_core.specs.Engine.{open_read_failed}
use Rattle.io_core.specs.Streams.{Appends, AppendsFront, counted, LacksSome}
use Rattle.command_core.specs.declared.commands.OpenOptions.{OpenOptions}
use Rattle.command_core.specs.declared.commands.TheConstants.{MAX_OPENED_BYTES}
use Rattle.command_core.specs.declared.line.FileFault.{FileFault}
use Rattle.command_core.specs.declared.line.FileFault.TheVariants.{CannotOpen, OutOfMemory, NoNumber, Unopened}
use Rattle.command_core.specs.declared.line.FileFault.TheVariants.{AnotherLabel, Unsealed, NoSuffix}
use Rattle.command_core.specs.declared.line.FileFault.TheVariants.{SpoolFailed}
use Rattle.command_core.specs.declared.line.FileOutcome.{FileOutcome}
use Rattle.command_core.specs.declared.line.FileOutcome.TheVariants.{Opened, Good, Shown, Failed}
use Rattle.command_core.specs.Labels.{IsLabelled}
use Rattle.command_core.specs.Lines.{FileLine, lines_text, status_of_lines}

-- the name without its last four bytes, which are `.stm`
abbrev pub output_of : List ℕ → List ℕ
output_of name = take (length name - 4) name

-- the name of the output of a file: the one that is given, or else the file's without `.stm`
abbrev pub output_for : Option (List ℕ) → List ℕ → List ℕ
output_for None name = output_of name
output_for (Some to) name = to

-- the name of a sealed file: at least one byte, and then `.stm`
abbrev pub IsSealedName : List ℕ → Type 0
IsSealedName name = (output_of name ≢ []) × (name ≡ output_of name ++ codes ".stm")

-- the name says what the output is called, or a name of the output is given
abbrev pub IsOpenable : Option (List ℕ) → List ℕ → Type 0
IsOpenable None name = IsSealedName name
IsOpenable (Some to) name = ⊤

-- 1 to 16 workers, and no more plaintext bytes than a file to be opened can have
abbrev pub AreInRange : OpenOptions → Type 0
AreInRange options = (options.max_bytes ≤ MAX_OPENED_BYTES) × (0 < options.workers) × (options.workers ≤ 16)

-- how many of these workers a file is worth: one for each MiB, and at least one; all of them if its length isn't known
abbrev pub workers_worth : Option ℕ → ℕ → ℕ
workers_worth None workers = workers
workers_worth (Some bytes) workers = min (max (bytes / 2 ^ 20) 1) workers

-- the label that is asked for, if any
abbrev pub asked_label : OpenOptions → Option (List ℕ)
asked_label options = option_map (λ label. label.now) options.label

-- the name of the output that is given, if one is
abbrev pub asked_output : OpenOptions → Option (List ℕ)
asked_output options = option_map (λ to. to.now) options.to

-- An outcome that `open_all` can have for a file of this name: the file was opened, or failed with a fault that opening
-- can have. It fails by its name exactly if no output is given, and that isn't the name of a sealed file.
abbrev pub IsOfOpening : Option (List ℕ) → List ℕ → FileOutcome → Type 0
IsOfOpening to name (Opened bytes) = IsOpenable to name
IsOfOpening to name (Failed NoSuffix) = ¬ IsOpenable to name
IsOfOpening to name (Failed OutOfMemory) = ⊥
IsOfOpening to name (Failed NoNumber) = ⊥
IsOfOpening to name (Failed (Unsealed fault)) = ⊥
IsOfOpening to name (Failed SpoolFailed) = ⊥
IsOfOpening to name (Failed fault) = IsOpenable to name
IsOfOpening to name _ = ⊥

-- an outcome that `verify_all` can have: the file is good (and shown, if asked for), it can't be opened, its container
-- has a fault, or it has another label
abbrev pub IsOfVerifying : Bool → FileOutcome → Type 0
IsOfVerifying false (Good bytes) = ⊤
IsOfVerifying true (Shown bytes facts) = ⊤
IsOfVerifying show (Failed CannotOpen) = ⊤
IsOfVerifying show (Failed AnotherLabel) = ⊤
IsOfVerifying show (Failed (Unopened Write)) = ⊥
IsOfVerifying show (Failed (Unopened fault)) = ⊤
IsOfVerifying show _ = ⊥

-- An input that was read has this fault: it is the first by the definition, or the input opens and has another label.
-- Memory is refused only where the header is good. Nothing is said of a reader that failed.
abbrev pub IsFaultOf : List ℕ → ℕ → Option (List ℕ) → List ℕ → FileFault → Type 0
IsFaultOf key most label input (Unopened Write) = ⊥
IsFaultOf key most label input (Unopened bytes.OutOfMemory) = header_fault key input ≡ None
IsFaultOf key most label input (Unopened fault) = IsOfBytes fault → opening key most input ≡ Err fault
IsFaultOf key most label input AnotherLabel =
    (plain : List ℕ) × (opening key most input ≡ Ok plain) × ¬ IsLabelled label input
IsFaultOf key most label input _ = ⊥

-- whether a file failed because its reader did
abbrev pub file_read_failed : {A : Type 0} → Result A FileFault → Bool
file_read_failed {A} (Err (Unopened fault)) = open_read_failed {A = A} (Err fault)
file_read_failed _ = false

-- whether an outcome is that a read failed, or that a file could not be read again
abbrev pub reading_failed : FileOutcome → Bool
reading_failed (Failed (Unopened Read)) = true
reading_failed (Failed SpoolFailed) = true
reading_failed _ = false

-- whether the outcome is that a write failed
abbrev pub file_write_failed : FileOutcome → Bool
file_write_failed (Failed (Unopened Write)) = true
file_write_failed _ = false

-- What a writer of lines got: a prefix of them. With a status other than 2 it got all of them, and the status is
-- theirs; with 2 not all. At most one write failed, and then the status is 2: after a failed write no other is tried.
pub record AreTold (status : ℕ) (lines : List FileLine) (old new : Option (List ℕ))
    (failures failures' : Option ℕ) : Type 0 where
  pub range : status ≤ 2
  pub begun : AppendsFront old new (lines_text lines)
  pub whole : status ≢ 2 → (status ≡ status_of_lines lines) × Appends old new (lines_text lines)
  pub short : status ≡ 2 → LacksSome old new (lines_text lines)
  pub stopped : (failures' ≡ failures) ⊎ ((status ≡ 2) × (failures' ≡ counted true failures))
