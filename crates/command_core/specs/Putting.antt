-- What is added to the record of a run where one output is created, filled with a plaintext, and closed.
use Rattle.std.specs.Prelude.{◌≡◌, ℕ, Bool, false, List, [], ◌∷◌, length, Option, Some, Result, Ok, Err, if◌then◌else◌}
use Rattle.container_core.specs.Opening.{opening}
use Rattle.container_core.specs.declared.fault.OpenFault.TheVariants.{Write}
use Rattle.io_core.specs.Streams.{IsFront}
use Rattle.opening_core.specs.declared.twice.Stopped.{Stopped}
use Rattle.opening_core.specs.declared.twice.Stopped.TheVariants.{Broken, Changed, Refused}
use Rattle.opening_core.specs.Engine.{HasHeader}
use Rattle.opening_core.specs.Twice.{broken_by_write}
use Rattle.folder_core.specs.declared.fault.FolderFault.TheVariants.{Exists, Failed}
use Rattle.folder_core.specs.Record.{Checked, Content, Created, Entry, Finished, GivenUp, Happened, Plain, RunRecord, State, WasReadAgain}
use Rattle.folder_core.specs.Record as record_of
use Rattle.command_core.specs.declared.line.FileFault.{FileFault}
use Rattle.command_core.specs.declared.line.FileFault.TheVariants as line
use Rattle.command_core.specs.declared.line.FileOutcome.TheVariants as outcome
use Rattle.command_core.specs.declared.putting.FillFault.{FillFault}
use Rattle.command_core.specs.declared.putting.FillFault.TheVariants.{Uncreated, Unfilled}
use Rattle.command_core.specs.Again.{IsAgainFault, IsBegun}
use Rattle.command_core.specs.Work.{reading_failed}

-- an output that was closed with these bytes, after so many failed writes
abbrev pub closed_output : List ℕ → Content → List ℕ → ℕ → State → Entry
closed_output name content bytes failures state =
    Created (record { name = name; content = content; bytes = bytes; failures = failures; state = state })

-- A plaintext's output was refused. Or it was given up with a prefix: a write failed, or its end.
abbrev pub LacksPlain : List ℕ → List ℕ → List ℕ → FillFault → List Entry → Type 0
LacksPlain name key plain (Uncreated fault) new = new ≡ Happened (record_of.Refused name fault) ∷ []
LacksPlain name key plain (Unfilled stopped) new = (stopped ≡ Broken Write) × (written : List ℕ)
    × IsFront written plain × (new ≡ closed_output name (Plain key plain) written 1 GivenUp ∷ [])

-- Or it is whole.
abbrev pub PutsPlain : {A : Type 0} → List ℕ → List ℕ → List ℕ → Result A FillFault → List Entry → Type 0
PutsPlain name key plain (Ok _) new = new ≡ closed_output name (Plain key plain) plain 0 Finished ∷ []
PutsPlain name key plain (Err fault) new = LacksPlain name key plain fault new

-- A reader has these bytes left: those of a file that was read, opens under the key and has this header, and was set back.
abbrev pub IsAgainIn : List ℕ → List ℕ → Option (List ℕ) → RunRecord → Type 0
IsAgainIn key header left r = (last : List ℕ) × (left ≡ Some last) × WasReadAgain r.entries key header last

-- one failed call, or none
abbrev pub once_if : Bool → ℕ
once_if failed = if failed then 1 else 0

-- The output of what a second reading gives is whole, and that has the header of the first. Or it was refused. Or it was
-- given up with what was written until then: the second reading gave other bytes, or memory or a call failed.
abbrev pub PutsAgain : List ℕ → List ℕ → ℕ → List ℕ → List ℕ → Result ℕ FillFault → List Entry → Type 0
PutsAgain name key most header last (Ok n) new = HasHeader header last × (plain : List ℕ) × (opening key most last ≡ Ok plain)
    × (n ≡ length plain) × (new ≡ closed_output name (Checked key header last) plain 0 Finished ∷ [])
PutsAgain name key most header last (Err (Uncreated fault)) new = new ≡ Happened (record_of.Refused name fault) ∷ []
PutsAgain name key most header last (Err (Unfilled stopped)) new = (written : List ℕ)
    × IsBegun key most header last (Some []) (Some written) × IsAgainFault key header most (Some last) stopped
    × (new ≡ closed_output name (Checked key header last) written (once_if (broken_by_write (Err stopped))) GivenUp ∷ [])

-- what a line says of a second reading that stopped
abbrev pub fault_of_stop : Stopped → FileFault
fault_of_stop Changed = line.Changed
fault_of_stop (Refused fault) = line.Unopened fault
fault_of_stop (Broken fault) = line.Unopened fault

-- what it says of an output that isn't whole
abbrev pub fault_of_fill : FillFault → FileFault
fault_of_fill (Uncreated Exists) = line.OutputExists
fault_of_fill (Uncreated Failed) = line.CannotCreate
fault_of_fill (Unfilled stopped) = fault_of_stop stopped

-- whether it says that a read failed
abbrev pub stopped_reading : {A : Type 0} → Result A FillFault → Bool
stopped_reading (Ok n) = false
stopped_reading (Err fault) = reading_failed (outcome.Failed (fault_of_fill fault))
