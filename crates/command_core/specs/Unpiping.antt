-- What `unpipe_all` does with a file that is read, and with a stream.
use Rattle.std.specs.Prelude.{◌≡◌, ◌≢◌, ⊤, ◌⊎◌, ℕ, None, List, [], ◌∷◌, length, Option, Some}
use Rattle.container_core.specs.declared.fault.OpenFault.TheVariants.{OutOfMemory, Read, Write}
use Rattle.container_core.specs.Faults.{IsOfBytes}
use Rattle.container_core.specs.Opening.{header_fault}
use Rattle.opening_core.specs.Engine.{HasHeader}
use Rattle.io_core.specs.Streams.{Appends, Keeps, counted}
use Rattle.folder_core.specs.Growth.{GrowsGiving}
use Rattle.folder_core.specs.Record.{Checked, Content, Entry, Happened, Repeated, RunRecord, Unread}
use Rattle.folder_core.specs.Record as event
use Rattle.command_core.specs.declared.line.FileFault.TheVariants.{AnotherLabel, CannotOpen, Changed, SpoolFailed, Unopened}
use Rattle.command_core.specs.declared.line.FileOutcome.{FileOutcome}
use Rattle.command_core.specs.declared.line.FileOutcome.TheVariants.{Opened, Failed}
use Rattle.command_core.specs.Again.{IsBegun, IsGood}
use Rattle.command_core.specs.Files.{AddsClosed, AddsUnrepeated}
use Rattle.command_core.specs.Work.{IsFaultOf, file_write_failed}

-- Outputs at a moment: the record of their run, but for the bytes of the one in hand; what that one took; and how many
-- writes to it failed. Each as far as it is known.
pub record OutputsView : Type 0 where
  pub rest : Option RunRecord
  pub taken : Option (List ℕ)
  pub failures : Option ℕ

abbrev pub outputs_view : Option RunRecord → Option (List ℕ) → Option ℕ → OutputsView
outputs_view rest taken failures = record { rest = rest; taken = taken; failures = failures }

-- An outcome that `unpipe_all` can have, and what is always so, whatever is known of the file. At `opened` as many bytes
-- were written as the line says. At a fault of the bytes, at another label, and before the second reading none was.
abbrev pub IsOfUnpiping : Option (List ℕ) → Option (List ℕ) → FileOutcome → Type 0
IsOfUnpiping taken taken' (Opened n) = (plain : List ℕ) × (n ≡ length plain) × Appends taken taken' plain
IsOfUnpiping taken taken' (Failed (Unopened fault)) = IsOfBytes fault → Keeps taken taken'
IsOfUnpiping taken taken' (Failed AnotherLabel) = Keeps taken taken'
IsOfUnpiping taken taken' (Failed CannotOpen) = Keeps taken taken'
IsOfUnpiping taken taken' (Failed SpoolFailed) = Keeps taken taken'
IsOfUnpiping taken taken' (Failed Changed) = ⊤
IsOfUnpiping taken taken' _ = ⊥

-- A file of this name was read, and it is good, with this header. Then it was set back and read again, and gave these
-- bytes. The stream may hold what is opened of them.
abbrev pub IsReadTwice : List ℕ → ℕ → Option (List ℕ) → List ℕ → List ℕ → List ℕ → List ℕ → List Entry → Option Content
    → Type 0
IsReadTwice key most label name header first last new content = HasHeader header first
    × ((plain : List ℕ) × IsGood key most label first plain)
    × (new ≡ Happened (event.Read name first) ∷ Happened (Repeated name last) ∷ [])
    × (content ≡ Some (Checked key header last))

-- What came: a file of this name was opened under the key, with at most `most` plaintext bytes and the label if one was
-- asked for, to a stream that had taken `taken`, and has taken `taken'` now.
module _ (key : List ℕ) (most : ℕ) (label : Option (List ℕ)) (name : List ℕ) (taken taken' : Option (List ℕ)) where
  -- It is good. The second reading stopped, and this was written of it. The two readings are so.
  abbrev pub IsCutShort : (List ℕ → List ℕ → Type 0) → List Entry → Option Content → Type 0
  IsCutShort are new content = (header : List ℕ) × (first : List ℕ) × (last : List ℕ) × are first last
      × IsReadTwice key most label name header first last new content
      × IsBegun key most header last taken taken'

  -- While it is open: these entries, and what the stream may hold then, if it was taken in hand. `opened`: both readings
  -- are good and have the same header, and all of the plaintext of the second was written. A fault of the bytes, or
  -- another label: of the first reading, and there is no other. Where memory or a call failed, nothing was written, or
  -- what was checked of the second reading. `changed`: the second gave other bytes. `spool failed`: the file is good, and
  -- could not be set back to be read again.
  abbrev pub UnpipesRead : FileOutcome → List Entry → Option Content → Type 0
  UnpipesRead (Opened n) new content = (header : List ℕ) × (first : List ℕ) × (last : List ℕ) × (plain : List ℕ)
      × IsReadTwice key most label name header first last new content × HasHeader header last
      × IsGood key most label last plain × (n ≡ length plain) × Appends taken taken' plain
  UnpipesRead (Failed (Unopened Write)) new content = IsCutShort (λ _ _. ⊤) new content
  UnpipesRead (Failed (Unopened Read)) new content = (Keeps taken taken' × (content ≡ None)
      × (first : List ℕ) × (new ≡ Happened (event.Read name first) ∷ [])) ⊎ IsCutShort (λ _ _. ⊤) new content
  UnpipesRead (Failed (Unopened OutOfMemory)) new content = (Keeps taken taken' × (content ≡ None)
      × (first : List ℕ) × (header_fault key first ≡ None) × (new ≡ Happened (event.Read name first) ∷ []))
      ⊎ IsCutShort (λ _ _. ⊤) new content
  UnpipesRead (Failed Changed) new content = IsCutShort (λ first last. first ≢ last) new content
  UnpipesRead (Failed SpoolFailed) new content = (content ≡ None) × AddsUnrepeated key most label name new
  UnpipesRead (Failed fault) new content = (content ≡ None) × (first : List ℕ) × IsFaultOf key most label first fault
      × (new ≡ Happened (event.Read name first) ∷ [])
  UnpipesRead _ new content = ⊥

  -- The file can't be opened, or it is closed at last, after a call of its reader had failed exactly where the outcome
  -- says that.
  abbrev pub Unpipes : FileOutcome → List Entry → Option Content → Type 0
  Unpipes (Failed CannotOpen) new content = (content ≡ None) × (new ≡ Happened (Unread name) ∷ [])
  Unpipes outcome new content = AddsClosed (λ it worked. UnpipesRead it worked content) name outcome new

-- This was done with a file and the stream at this place of the record, as far as that is known. The outcome is a failed
-- write exactly where one more failed.
pub record HasUnpipedSo (does : Option (List ℕ) → Option (List ℕ) → FileOutcome → List Entry → Option Content → Type 0)
    (place : ℕ) (old new : OutputsView) (outcome : FileOutcome) : Type 0 where
  pub works : GrowsGiving place (does old.taken new.taken outcome) old.rest new.rest
  pub kept : IsOfUnpiping old.taken new.taken outcome
  pub write : new.failures ≡ counted (file_write_failed outcome) old.failures

-- `unpipe_all` did this with a file of this name.
abbrev pub HasUnpiped : List ℕ → ℕ → Option (List ℕ) → List ℕ → ℕ → OutputsView → OutputsView → FileOutcome → Type 0
HasUnpiped key most label name place old new outcome =
    HasUnpipedSo (Unpipes key most label name) place old new outcome

-- The same, while the file is open.
abbrev pub HasUnpipedRead : List ℕ → ℕ → Option (List ℕ) → List ℕ → ℕ → OutputsView → OutputsView → FileOutcome → Type 0
HasUnpipedRead key most label name place old new outcome =
    HasUnpipedSo (UnpipesRead key most label name) place old new outcome
