-- What was opened was sealed: what runs and calls that ended added to the record, and what they made of what.
use Rattle.std.specs.Prelude.{◌≡◌, ◌⊎◌, ℕ, List, ◌∷◌, ◌++◌, Option, Some, slice_get}
use Rattle.container_core.specs.Shape.{IsShape}
use Rattle.journal_core.specs.declared.entry.Entry as operation
use Rattle.journal_core.specs.declared.terms.Terms.{Terms}
use Rattle.folder_core.specs.Growth.{with_entries}
use Rattle.folder_core.specs.Record.{Content, Entry, Finished, Happened, Read, Repeated, RunRecord}
use Rattle.command_core.specs.declared.line.FileOutcome.TheVariants.{Opened, Sealed}
use Rattle.command_core.specs.Putting.{closed_output}
use Rattle.command_core.specs.Files.{AddsOpened, HaveAdded}
use Rattle.command_core.specs.Turns.{Printed}
use Rattle.command_core.specs.Unpiping.{Unpipes}
use Rattle.command_core.specs.Work.{IsOfOpening, output_for}
use Rattle.sealer_core.specs.Piping.{HasSealedStream, PipeView}
use Rattle.sealer_core.specs.Sealing.{HasSealed, SealedUnder, sealed_name}

-- One of these entries is an output of this name that was finished with these bytes.
abbrev pub IsFinishedIn : List Entry → List ℕ → List ℕ → Type 0
IsFinishedIn entries name bytes = (before : List Entry) × (content : Content) × (failures : ℕ) × (after : List Entry)
    × (entries ≡ before ++ closed_output name content bytes failures Finished ∷ after)

-- It was created right after this entry, and finished, and no write to it failed.
abbrev pub IsFinishedAfter : Entry → List Entry → List ℕ → List ℕ → Type 0
IsFinishedAfter entry entries name bytes = (before : List Entry) × (content : Content) × (after : List Entry)
    × (entries ≡ before ++ entry ∷ closed_output name content bytes 0 Finished ∷ after)

-- ---- sealed

-- A run of `seal_all` that ended added these entries to the record (its clause `run`). Each `Shape` has `IsShape`.
abbrev pub HasSealedFiles : SealedUnder → List Entry → Type 0
HasSealedFiles under entries = IsShape under.shape × (names : List (List ℕ)) × (terms : Terms)
    × (history : List operation.Entry) × (status : ℕ) × (old : Printed) × (new : Printed) × (before : RunRecord)
    × HasSealed under names terms history status old new (Some before) (Some (with_entries entries before))

-- A run of `pipe_all` that ended, and whose line says `sealed`, had this input, and wrote these bytes (its clause `run`).
abbrev pub HasSealedInput : SealedUnder → List ℕ → List ℕ → Type 0
HasSealedInput under input bytes = IsShape under.shape × (place : ℕ) × (old : PipeView) × (new : PipeView)
    × (terms : Terms) × (history : List operation.Entry) × (status : ℕ) × (line : Printed) × (line_then : Printed)
    × (sealed : HasSealedStream under place old new terms history status line line_then) × (number : ℕ) × (count : ℕ)
    × (sealed.outcome ≡ Sealed number count) × (old.stream.left ≡ Some input)
    × (taken : List ℕ) × (old.stream.taken ≡ Some taken) × (new.stream.taken ≡ Some (taken ++ bytes))

-- This input was sealed to these bytes: a file's to those with which its output was finished, or a stream's.
abbrev pub WasSealed : SealedUnder → List ℕ → List ℕ → Type 0
WasSealed under input bytes = ((entries : List Entry) × (file : List ℕ) × HasSealedFiles under entries
    × IsFinishedAfter (Happened (Read file input)) entries (sealed_name file) bytes) ⊎ HasSealedInput under input bytes

-- ---- opened

-- A call of `open_all` that ended added these entries to the record (its clause `files`). The output's name may be given.
abbrev pub HasOpenedFiles : List ℕ → Option (List ℕ) → List Entry → Type 0
HasOpenedFiles key to entries = (names : List (List ℕ)) × (most : ℕ) × (label : Option (List ℕ)) × (status : ℕ)
    × (old : Printed) × (new : Printed) × (before : RunRecord)
    × HaveAdded (IsOfOpening to) (λ name. AddsOpened key most label (output_for to name) name) names status old new
    (Some before) (Some (with_entries entries before))

-- The last reading of a file gave these bytes, and right after that its output was finished with this plaintext.
abbrev pub IsOpenedIn : Option (List ℕ) → List Entry → List ℕ → List ℕ → List ℕ → Type 0
IsOpenedIn to entries file bytes plain =
    IsFinishedAfter (Happened (Read file bytes)) entries (output_for to file) plain
    ⊎ IsFinishedAfter (Happened (Repeated file bytes)) entries (output_for to file) plain

-- A call of `unpipe_all` that ended with `opened` wrote this plaintext (clause `run`). The last reading gave these bytes.
abbrev pub HasUnpipedTo : List ℕ → List ℕ → List ℕ → Type 0
HasUnpipedTo key bytes plain = (most : ℕ) × (label : Option (List ℕ)) × (name : List ℕ) × (taken : List ℕ) × (n : ℕ)
    × (new : List Entry) × (content : Option Content)
    × Unpipes key most label name (Some taken) (Some (taken ++ plain)) (Opened n) new content
    × (slice_get new 1 ≡ Some (Happened (Repeated name bytes)))

-- These bytes, as they were read last, were opened to this plaintext: into a file's output, or a stream.
abbrev pub WasOpened : List ℕ → List ℕ → List ℕ → Type 0
WasOpened key bytes plain = ((to : Option (List ℕ)) × (entries : List Entry) × (file : List ℕ)
    × HasOpenedFiles key to entries × IsOpenedIn to entries file bytes plain) ⊎ HasUnpipedTo key bytes plain
