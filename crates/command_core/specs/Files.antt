-- What `open_all` and `verify_all` add to the record of a run.
use Rattle.std.specs.Prelude.{⊤, ◌≡◌, ◌≢◌, ◌⊎◌, ℕ, List, [], ◌∷◌, ◌++◌, length, take, map, flat_map, All, Option, None, Some, IfSome}
use Rattle.container_core.specs.declared.fault.OpenFault.TheVariants.{Read, Write}
use Rattle.container_core.specs.declared.fault.OpenFault.TheVariants as bytes
use Rattle.container_core.specs.Opening.{header_fault}
use Rattle.io_core.specs.Streams.{IsFront}
use Rattle.opening_core.specs.Engine.{HasHeader, OpensTo}
use Rattle.folder_core.specs.declared.fault.FolderFault.{FolderFault}
use Rattle.folder_core.specs.declared.fault.FolderFault.TheVariants as refusal
use Rattle.folder_core.specs.Record.{Checked, Entry, Finished, GivenUp, Happened, Plain, RunRecord}
use Rattle.folder_core.specs.Record as event
use Rattle.folder_core.specs.Changes.{IsIdle, TellsBytes}
use Rattle.folder_core.specs.Growth.{Grows}
use Rattle.command_core.specs.declared.commands.OpenOptions.{OpenOptions}
use Rattle.command_core.specs.declared.line.FileFault.{FileFault}
use Rattle.command_core.specs.declared.line.FileFault.TheVariants.{CannotCreate, CannotOpen, Changed, NoSuffix, OutputExists, Unopened}
use Rattle.command_core.specs.declared.line.FileOutcome.{FileOutcome}
use Rattle.command_core.specs.declared.line.FileOutcome.TheVariants.{Failed, Good, Opened, Shown}
use Rattle.command_core.specs.Again.{IsBegun, IsGood}
use Rattle.command_core.specs.Facts.{IsOfHeader}
use Rattle.command_core.specs.Labels.{IsLabelled}
use Rattle.command_core.specs.Lines.{FileLine}
use Rattle.command_core.specs.Putting.{closed_output, once_if}
use Rattle.command_core.specs.Turns.{Printed}
use Rattle.command_core.specs.Work.{AreTold, IsFaultOf, IsOfOpening, IsOfVerifying, asked_label, asked_output, output_for}
use Rattle.command_core.specs.Work.{file_write_failed, reading_failed}

-- The file of this name was just opened for reading: no call of its reader failed, and nothing is in hand.
pub record IsOpenFile (name : List ℕ) (left : Option (List ℕ)) (failures : Option ℕ) (rest : Option RunRecord) : Type 0 where
  pub idle : IsIdle rest
  pub read : (before : Option RunRecord) × TellsBytes (event.Read name) left before rest
  pub fresh : IfSome rest (λ _. failures ≡ Some 0)

-- ---- a file that is opened

-- A file that has the label was read once, and its output was finished with its plaintext.
abbrev pub AddsOnce : List ℕ → ℕ → Option (List ℕ) → List ℕ → List ℕ → List ℕ → List Entry → Type 0
AddsOnce key most label output name plain new = (input : List ℕ) × IsGood key most label input plain
    × (new ≡ Happened (event.Read name input) ∷ closed_output output (Plain key plain) plain 0 Finished ∷ [])

-- It was read twice: the first reading is good, and the second has the same header and is good. The output was finished
-- with the plaintext of the second.
abbrev pub AddsTwice : List ℕ → ℕ → Option (List ℕ) → List ℕ → List ℕ → List ℕ → List Entry → Type 0
AddsTwice key most label output name plain new = (header : List ℕ) × (first : List ℕ) × (last : List ℕ)
    × ((whole : List ℕ) × IsGood key most label first whole) × HasHeader header first × HasHeader header last
    × IsGood key most label last plain × (new ≡ Happened (event.Read name first) ∷ Happened (event.Repeated name last)
    ∷ closed_output output (Checked key header last) plain 0 Finished ∷ [])

-- The readings of a file: one, or two of the same open file.
abbrev pub AddsReadings : List ℕ → List ℕ → List Entry → Type 0
AddsReadings name first new = (new ≡ Happened (event.Read name first) ∷ [])
    ⊎ ((last : List ℕ) × (new ≡ Happened (event.Read name first) ∷ Happened (event.Repeated name last) ∷ []))

-- A good file could not be set back to be read again.
abbrev pub AddsUnrepeated : List ℕ → ℕ → Option (List ℕ) → List ℕ → List Entry → Type 0
AddsUnrepeated key most label name new = (first : List ℕ) × (plain : List ℕ) × IsGood key most label first plain
    × (new ≡ Happened (event.Read name first) ∷ Happened (event.Unrepeated name) ∷ [])

-- The output of a good file was refused for this cause.
abbrev pub AddsRefused : List ℕ → ℕ → Option (List ℕ) → List ℕ → List ℕ → FolderFault → List Entry → Type 0
AddsRefused key most label output name cause new = (first : List ℕ) × (plain : List ℕ) × (readings : List Entry)
    × IsGood key most label first plain × AddsReadings name first readings
    × (new ≡ readings ++ Happened (event.Refused output cause) ∷ [])

-- A good file was read once. Its output was given up with a prefix of the plaintext, since a write failed.
abbrev pub AddsGivenUp : List ℕ → ℕ → Option (List ℕ) → List ℕ → List ℕ → List Entry → Type 0
AddsGivenUp key most label output name new = (input : List ℕ) × (plain : List ℕ) × (written : List ℕ)
    × IsGood key most label input plain × IsFront written plain
    × (new ≡ Happened (event.Read name input) ∷ closed_output output (Plain key plain) written 1 GivenUp ∷ [])

-- A good file was read twice. Its output was given up, for this fault, with what was written of the second reading. The
-- two readings are so.
abbrev pub AddsBrokenOff : (List ℕ → List ℕ → Type 0) → List ℕ → ℕ → Option (List ℕ) → List ℕ → List ℕ → FileFault
    → List Entry → Type 0
AddsBrokenOff are key most label output name fault new = (header : List ℕ) × (first : List ℕ) × (last : List ℕ)
    × (written : List ℕ) × are first last × HasHeader header first × ((plain : List ℕ) × IsGood key most label first plain)
    × IsBegun key most header last (Some []) (Some written)
    × (new ≡ Happened (event.Read name first) ∷ Happened (event.Repeated name last)
    ∷ closed_output output (Checked key header last) written (once_if (file_write_failed (Failed fault))) GivenUp ∷ [])

-- What comes for a file of this name that is open, and to be opened to this output. An output is created only after the
-- file was read, opens and has the label. It is finished with the plaintext of the last reading, once, where no write
-- failed and its end wasn't refused, and then the line says `opened`. Or it is refused, for the cause in the line. Or it
-- is given up: after a write, a read or memory failed, or because the second reading gave other bytes. The line says
-- `write failed` exactly where a write to the output failed, or its end.
abbrev pub AddsOpenedRead : List ℕ → ℕ → Option (List ℕ) → List ℕ → List ℕ → FileOutcome → List Entry → Type 0
AddsOpenedRead key most label output name (Opened n) new = (plain : List ℕ) × (n ≡ length plain)
    × (AddsOnce key most label output name plain new ⊎ AddsTwice key most label output name plain new)
AddsOpenedRead key most label output name (Failed (Unopened Write)) new = AddsGivenUp key most label output name new
    ⊎ AddsBrokenOff (λ _ _. ⊤) key most label output name (Unopened Write) new
AddsOpenedRead key most label output name (Failed (Unopened Read)) new =
    ((input : List ℕ) × (new ≡ Happened (event.Read name input) ∷ [])) ⊎ (AddsUnrepeated key most label name new
    ⊎ AddsBrokenOff (λ _ _. ⊤) key most label output name (Unopened Read) new)
AddsOpenedRead key most label output name (Failed (Unopened bytes.OutOfMemory)) new =
    ((input : List ℕ) × (header_fault key input ≡ None) × (new ≡ Happened (event.Read name input) ∷ []))
    ⊎ AddsBrokenOff (λ _ _. ⊤) key most label output name (Unopened bytes.OutOfMemory) new
AddsOpenedRead key most label output name (Failed Changed) new =
    AddsBrokenOff (λ first last. first ≢ last) key most label output name Changed new
AddsOpenedRead key most label output name (Failed OutputExists) new =
    AddsRefused key most label output name refusal.Exists new
AddsOpenedRead key most label output name (Failed CannotCreate) new =
    AddsRefused key most label output name refusal.Failed new
AddsOpenedRead key most label output name (Failed fault) new =
    (input : List ℕ) × IsFaultOf key most label input fault × (new ≡ Happened (event.Read name input) ∷ [])
AddsOpenedRead key most label output name _ new = ⊥

-- This came for a file, and at last it was closed: after a call of its reader had failed exactly where the outcome says
-- that, and then one.
abbrev pub AddsClosed : (FileOutcome → List Entry → Type 0) → List ℕ → FileOutcome → List Entry → Type 0
AddsClosed adds name outcome new = (worked : List Entry) × adds outcome worked
    × (new ≡ worked ++ Happened (event.Closed name (once_if (reading_failed outcome))) ∷ [])

-- What comes for a file of this name that is to be opened to this output: nothing if no output has a name. Else the file
-- can't be opened for reading, or it is closed at last.
abbrev pub AddsOpened : List ℕ → ℕ → Option (List ℕ) → List ℕ → List ℕ → FileOutcome → List Entry → Type 0
AddsOpened key most label output name (Failed NoSuffix) new = new ≡ []
AddsOpened key most label output name (Failed CannotOpen) new = new ≡ Happened (event.Unread name) ∷ []
AddsOpened key most label output name outcome new =
    AddsClosed (AddsOpenedRead key most label output name) name outcome new

-- ---- a file that is verified

-- What comes for a file of this name that is open, and to be verified: it was read, and is as the line says.
abbrev pub AddsVerifiedRead : List ℕ → ℕ → Option (List ℕ) → List ℕ → FileOutcome → List Entry → Type 0
AddsVerifiedRead key most label name (Good n) new = (input : List ℕ) × OpensTo key most input n × IsLabelled label input
    × (new ≡ Happened (event.Read name input) ∷ [])
AddsVerifiedRead key most label name (Shown n facts) new = (input : List ℕ) × OpensTo key most input n
    × IsLabelled label input × ((header : List ℕ) × HasHeader header input × IsOfHeader facts header)
    × (new ≡ Happened (event.Read name input) ∷ [])
AddsVerifiedRead key most label name (Failed fault) new =
    (input : List ℕ) × IsFaultOf key most label input fault × (new ≡ Happened (event.Read name input) ∷ [])
AddsVerifiedRead key most label name _ new = ⊥

-- What comes for a file of this name that is to be verified: it can't be opened for reading, or it is closed at last.
abbrev pub AddsVerified : List ℕ → ℕ → Option (List ℕ) → List ℕ → FileOutcome → List Entry → Type 0
AddsVerified key most label name (Failed CannotOpen) new = new ≡ Happened (event.Unread name) ∷ []
AddsVerified key most label name outcome new = AddsClosed (AddsVerifiedRead key most label name) name outcome new

-- ---- files in turn

-- a file's line, and what came for it
pub record FileEntries : Type 0 where
  pub line : FileLine
  pub entries : List Entry

-- These entries are those of the lines, one after the other: each line has its own.
pub record AddsFiles (adds : List ℕ → FileOutcome → List Entry → Type 0) (lines : List FileLine) (new : List Entry) : Type 0
  where
    pub files : List FileEntries
    pub lined : map (λ f. f.line) files ≡ lines
    pub each : All (λ f. adds f.line.name f.line.outcome f.entries) files
    pub joined : new ≡ flat_map (λ f. f.entries) files

-- Every file was processed, in order, each with an outcome that fits its name, and their lines were printed. What was
-- added to the record, if that is known, is what belongs to each line.
pub record HaveAdded (fits : List ℕ → FileOutcome → Type 0) (adds : List ℕ → FileOutcome → List Entry → Type 0)
    (names : List (List ℕ)) (status : ℕ) (old new : Printed) (before after : Option RunRecord) : Type 0 where
  pub lines : List FileLine
  pub named : map (λ line. line.name) lines ≡ names
  pub fitting : All (λ line. fits line.name line.outcome) lines
  pub told : AreTold status lines old.taken new.taken old.failures new.failures
  pub added : Grows (AddsFiles adds lines) before after

-- The first files, as many as `number`, were opened, and their lines printed, with this status.
abbrev pub HaveOpened : List ℕ → OpenOptions → ℕ → ℕ → Printed → Printed → Option RunRecord → Option RunRecord → Type 0
HaveOpened key options number status old new before after = HaveAdded (IsOfOpening (asked_output options))
    (λ name. AddsOpened key options.max_bytes (asked_label options) (output_for (asked_output options) name) name)
    (map (λ name. name.now) (take number options.files.now)) status old new before after

-- The same, where they were verified.
abbrev pub HaveVerified : List ℕ → OpenOptions → ℕ → ℕ → Printed → Printed → Option RunRecord → Option RunRecord → Type 0
HaveVerified key options number status old new before after = HaveAdded (λ name. IsOfVerifying options.show)
    (AddsVerified key options.max_bytes (asked_label options)) (map (λ name. name.now) (take number options.files.now))
    status old new before after
