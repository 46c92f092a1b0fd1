-- What `seal_all` does with a list of files, and how its lines agree with the operations of the ledger.
use Rattle.std.specs.Prelude.{⊤, ◌≡◌, ◌≢◌, ℕ, ◌+◌, ◌^◌, ◌<◌, ◌≤◌, ◌⊎◌, IsTrue, Bool, true, false, nat_eq, List, []}
use Rattle.std.specs.Prelude.{◌∷◌, ◌++◌, count_by, slice_get, length, codes, Option, Some, None}
use Rattle.std.specs.Prelude.{flat_map}
use Rattle.journal_core.specs.declared.entry.Entry.{Entry}
use Rattle.journal_core.specs.declared.entry.Event.TheVariants.{Granted, Exhausted, Settled}
use Rattle.journal_core.specs.declared.entry.Way.TheVariants as ended
use Rattle.journal_core.specs.declared.terms.Terms.{Terms}
use Rattle.journal_core.specs.History.{Legal, tally_of, times_granted}
use Rattle.journal_core.specs.Range.{Numbers, prefix_of}
use Rattle.container_core.specs.Container.{container}
use Rattle.container_core.specs.Faults.{is_failed_read, is_failed_write}
use Rattle.container_core.specs.Shape.{ShapeView}
use Rattle.io_core.specs.Streams.{Appends, AppendsFront, IsFront, LacksSome}
use Rattle.container_core.specs.declared.fault.SealFault.TheVariants as sealing_fault
use Rattle.ledger_core.specs.declared.fault.IssueFault.{IssueFault}
use Rattle.ledger_core.specs.declared.fault.IssueFault.TheVariants as issue_fault
use Rattle.reserve_core.specs.Reservations.{Lists, Holds, with_range}
use Rattle.reserve_core.specs.Folded.{AreFolded, AreLeft, LeftBy}
use Rattle.reserve_core.specs.Lasting.{StillLast}
-- a range that was reserved and folded, and the operations of some seats
pub use Rattle.command_core.specs.GrantedRange.{FoldsARange, IsReserved, RangeAsked, operations_of, range_asked}
use Rattle.sealer_core.specs.declared.sealing.SealOptions.{SealOptions}
use Rattle.sqlite_disk.specs.declared.Disk as disk
use Rattle.sqlite_disk.specs.declared.Files.{Files}
use Rattle.sqlite_store.specs.declared.store.FileStore.{FileStore}
use Rattle.sqlite_wal.specs.Reads.{AreClean}
use Rattle.sqlite.specs.Effect.{Database}
use Rattle.sqlite.specs.Files.{over_files}
use Rattle.sqlite.specs.Held.{Held, state}
use Rattle.sqlite.specs.State.{State, HasCleanDisk, Survives}
use Rattle.sqlite_trees.specs.declared.store.Store.{Ghosts}
use Rattle.command_core.specs.declared.line.FileFault.{FileFault}
use Rattle.command_core.specs.declared.line.FileFault.TheVariants.{CannotOpen, OutputExists, CannotCreate, OutOfMemory}
use Rattle.command_core.specs.declared.line.FileFault.TheVariants.{NoNumber, Unsealed}
use Rattle.command_core.specs.declared.line.FileOutcome.{FileOutcome}
use Rattle.command_core.specs.declared.line.FileOutcome.TheVariants.{Sealed, Opened, Good, Shown, Failed}
use Rattle.folder_core.specs.declared.fault.FolderFault.TheVariants as folder_fault
use Rattle.folder_core.specs.Growth.{Grows}
use Rattle.folder_core.specs.Record.{Closed, Container, Content, Created, Finished, GivenUp, Happened, Nothing, Read, Refused}
use Rattle.folder_core.specs.Record.{RunRecord, Unread}
use Rattle.folder_core.specs.Record as record_of
use Rattle.command_core.specs.Lines.{FileLine}
use Rattle.command_core.specs.Files.{HaveAdded}
use Rattle.command_core.specs.Putting.{closed_output, once_if}
use Rattle.command_core.specs.Turns.{Printed}

-- ---- options

-- the limited options of a run: the bytes of a file, and how many workers and chunks at a time there are
pub record AreLawful (options : SealOptions) : Type 0 where
  pub max_bytes : options.max_bytes ≤ 2 ^ 40
  pub workers : (0 < options.workers) × (options.workers ≤ 16)
  pub window : (0 < options.window) × (options.window ≤ 256)

-- ---- one file

-- the name of a sealed file's output
abbrev pub sealed_name : List ℕ → List ℕ
sealed_name name = name ++ codes ".stm"

-- an outcome that `seal_all` can have
abbrev pub IsOfSealing : FileOutcome → Type 0
IsOfSealing (Sealed number bytes) = ⊤
IsOfSealing (Failed CannotOpen) = ⊤
IsOfSealing (Failed OutputExists) = ⊤
IsOfSealing (Failed CannotCreate) = ⊤
IsOfSealing (Failed OutOfMemory) = ⊤
IsOfSealing (Failed NoNumber) = ⊤
IsOfSealing (Failed (Unsealed fault)) = fault ≢ sealing_fault.TooManyChunks
IsOfSealing _ = ⊥

-- the fault of a file for which no number was issued
abbrev pub unissued_as : IssueFault → FileFault
unissued_as issue_fault.Exhausted = NoNumber
unissued_as issue_fault.SeatClosed = NoNumber
unissued_as issue_fault.OutOfMemory = Unsealed sealing_fault.OutOfMemory

-- ---- what comes in the record for one file

-- What is sealed under: a key, a shape and a device; and the most bytes of a file, or chunks of a stream.
pub record SealedUnder : Type 0 where
  pub key : List ℕ
  pub shape : ShapeView
  pub device : ℕ
  pub most : ℕ

abbrev pub sealed_under : List ℕ → ShapeView → ℕ → ℕ → SealedUnder
sealed_under key shape device most = record { key = key; shape = shape; device = device; most = most }

-- the container of a plaintext, under a number of the device
abbrev pub container_by : SealedUnder → ℕ → List ℕ → List ℕ
container_by under number plain = container under.key under.shape (prefix_of under.device number) plain

-- What an output that was given up may hold, and held: nothing if it was never in hand, else a prefix of its input's
-- container under its number.
abbrev pub HoldsSome : SealedUnder → List ℕ → Content → List ℕ → Type 0
HoldsSome under input Nothing held = held ≡ []
HoldsSome under input (Container number shape) held =
    (shape ≡ under.shape) × IsFront held (container_by under number input)
HoldsSome under input _ held = ⊥

-- What the fault of a file whose output was given up says of the input, and of what the output may hold, and held. A
-- write can fail only under a number, and memory is refused before anything is written. A file is bounded by bytes, so
-- it never has too many chunks.
abbrev pub IsWhyGivenUp : ℕ → FileFault → List ℕ → Content → List ℕ → Type 0
IsWhyGivenUp most NoNumber input content held = content ≡ Nothing
IsWhyGivenUp most (Unsealed sealing_fault.TooLong) input content held = most < length input
IsWhyGivenUp most (Unsealed sealing_fault.OutOfMemory) input content held = held ≡ []
IsWhyGivenUp most (Unsealed sealing_fault.Read) input content held = ⊤
IsWhyGivenUp most (Unsealed sealing_fault.Write) input content held = content ≢ Nothing
IsWhyGivenUp most _ input content held = ⊥

-- whether the fault is that a write failed, or a read
abbrev pub is_unwritten : FileFault → Bool
is_unwritten (Unsealed fault) = is_failed_write fault
is_unwritten _ = false

abbrev pub is_unread : FileOutcome → Bool
is_unread (Failed (Unsealed fault)) = is_failed_read fault
is_unread _ = false

-- What comes for the output of this name, of an input that is sealed into it. With `sealed`, it was finished once, after
-- no failed write, and holds the container of the input under the number in the line. Or it was refused, for the cause
-- in the line. Or it was given up with a prefix of the container: after one failed write exactly where the line says
-- that, and an end that fails is one.
abbrev pub PutsSealed : SealedUnder → List ℕ → List ℕ → FileOutcome → record_of.Entry → Type 0
PutsSealed under output input (Sealed number bytes) entry = (bytes ≡ length input) × (length input ≤ under.most)
    × (entry ≡ closed_output output (Container number under.shape) (container_by under number input) 0 Finished)
PutsSealed under output input (Failed OutputExists) entry = entry ≡ Happened (Refused output folder_fault.Exists)
PutsSealed under output input (Failed CannotCreate) entry = entry ≡ Happened (Refused output folder_fault.Failed)
PutsSealed under output input (Failed fault) entry = (content : Content) × (held : List ℕ)
    × HoldsSome under input content held × IsWhyGivenUp under.most fault input content held
    × (entry ≡ closed_output output content held (once_if (is_unwritten fault)) GivenUp)
PutsSealed under output input _ entry = ⊥

-- A file of this name was read, then came this for its output, and at last the file was closed: after exactly one failed
-- read if the line says that, else after none.
abbrev pub AddsRead : SealedUnder → List ℕ → FileOutcome → List record_of.Entry → Type 0
AddsRead under name outcome new = (input : List ℕ) × (put : record_of.Entry) × PutsSealed under (sealed_name name) input outcome put
    × (new ≡ Happened (Read name input) ∷ put ∷ Happened (Closed name (once_if (is_unread outcome))) ∷ [])

-- What comes for a file of this name that is sealed: nothing if memory was refused before it was opened. Else it can't
-- be opened for reading, or it is read and closed.
abbrev pub AddsSealed : SealedUnder → List ℕ → FileOutcome → List record_of.Entry → Type 0
AddsSealed under name (Failed OutOfMemory) new = new ≡ []
AddsSealed under name (Failed CannotOpen) new = new ≡ Happened (Unread name) ∷ []
AddsSealed under name outcome new = AddsRead under name outcome new

-- the number of an output that was given up, if it may hold a container
abbrev pub if_given_up : record_of.State → Content → List ℕ
if_given_up GivenUp (Container number shape) = number ∷ []
if_given_up _ content = []

abbrev pub number_given_up : record_of.Entry → List ℕ
number_given_up (Created output) = if_given_up output.state output.content
number_given_up (Happened event) = []

-- the numbers of all outputs that were given up
abbrev pub given_up_in : List record_of.Entry → List ℕ
given_up_in entries = flat_map number_given_up entries

-- ---- numbers

abbrev pub line_of : List ℕ → FileOutcome → FileLine
line_of name outcome = record { name = name; outcome = outcome }

-- the outcome says that the file was sealed under this number
abbrev pub tells_of : ℕ → FileOutcome → Bool
tells_of number (Sealed n bytes) = nat_eq number n
tells_of number (Opened bytes) = false
tells_of number (Good bytes) = false
tells_of number (Shown bytes facts) = false
tells_of number (Failed fault) = false

-- how often the lines say so
abbrev pub times_told : ℕ → List FileLine → ℕ
times_told number lines = count_by (λ line. tells_of number line.outcome) lines

-- the entry settles this number as sealed, or as void
abbrev pub seals : ℕ → Entry → Bool
seals number e = elim e.event [
  | Granted n ↦ false
  | Exhausted ↦ false
  | Settled n way ↦ elim way [ ended.Sealed ↦ nat_eq number n | ended.Void ↦ false ]
]

abbrev pub spoils : ℕ → Entry → Bool
spoils number e = elim e.event [
  | Granted n ↦ false
  | Exhausted ↦ false
  | Settled n way ↦ elim way [ ended.Sealed ↦ false | ended.Void ↦ nat_eq number n ]
]

abbrev pub times_sealed : ℕ → List Entry → ℕ
times_sealed number history = count_by (seals number) history

abbrev pub times_voided : ℕ → List Entry → ℕ
times_voided number history = count_by (spoils number) history

-- how often a number is among these
abbrev pub times_in : ℕ → List ℕ → ℕ
times_in number numbers = count_by (λ other. nat_eq number other) numbers

-- The lines, the void numbers of their files and the operations of a ledger agree. Each number was settled as sealed as
-- often as a line says so, as void as often as it is a file's void number, and granted as often as both together. So no
-- number is open. If none is granted twice, each was settled once: as sealed if a line says so, else as void.
pub record Accounts (lines : List FileLine) (voids : List ℕ) (operations : List Entry) : Type 0 where
  pub told : (number : ℕ) → times_sealed number operations ≡ times_told number lines
  pub voided : (number : ℕ) → times_voided number operations ≡ times_in number voids
  pub granted : (number : ℕ)
      → times_told number lines + times_voided number operations ≡ times_granted number operations

-- as many numbers were granted as were settled: an audit finds none open
abbrev pub IsSettled : List Entry → Type 0
IsSettled history = let tally = tally_of history in tally.granted ≡ tally.sealed + tally.void

-- the numbers in the lines that say `sealed` are in the range, and no two of them are the same
pub record AreNumbered (range : Numbers) (lines : List FileLine) : Type 0 where
  pub inside : (i number bytes : ℕ) (name : List ℕ) → slice_get lines i ≡ Some (line_of name (Sealed number bytes))
      → (range.lo ≤ number) × (number < range.lo + range.size)
  pub once : (i j one other bytes more : ℕ) (name another : List ℕ) → i ≢ j
      → slice_get lines i ≡ Some (line_of name (Sealed one bytes))
      → slice_get lines j ≡ Some (line_of another (Sealed other more)) → one ≢ other

-- ---- a run

-- At most one range of `count` numbers is appended to the lists.
abbrev pub AppendsOnce : List ℕ → ℕ → ℕ → State → State → Type 0
AppendsOnce key_id device count old new =
    HasCleanDisk new → IsTrue new.is_open → (lists : Lists) → Holds old.now lists
    → (new.now ≡ old.now) ⊎ Holds new.now (with_range lists key_id device count)

-- A crash leaves the lists from before, or those with the range.
abbrev pub CrashesAround : List ℕ → ℕ → ℕ → State → State → Type 0
CrashesAround key_id device count old new =
    Survives old new (λ trees. (lists : Lists) → Holds old.now lists
    → (db : Database) × Holds db (with_range lists key_id device count) × (trees ≡ db.trees))

-- A ledger file's keeper appended at most one range, and whatever outlived a crash still does. The file is as it then
-- was; or it was folded, and this is left of it.
abbrev pub ReservesOnce : {S L F : Type 0} → Ghosts S → (Held S → F) → (L → F) → (S → L → Type 0) → List ℕ → ℕ → ℕ
    → F → F → Type 0
ReservesOnce g kept folded is_left key_id device count old new =
    (was : _) → old ≡ kept was → (mid : _) × AppendsOnce key_id device count (state g was) (state g mid)
    × CrashesAround key_id device count (state g was) (state g mid) × StillLast g was mid
    × ((new ≡ kept mid) ⊎ ((left : _) × (new ≡ folded left) × LeftBy g is_left mid left))

-- the same over files
abbrev pub ReservesFilesOnce : {D F : Type 0} {g : disk.Ghosts D} → (Held (FileStore D g) → F) → (Files D → F)
    → List ℕ → ℕ
    → ℕ → F → F → Type 0
ReservesFilesOnce kept folded = ReservesOnce over_files kept folded AreLeft

-- A fold of a range over files, as long as the disk returned what was written
abbrev pub FoldsFiles : {D F : Type 0} {g : disk.Ghosts D} → (Held (FileStore D g) → F) → (Files D → F) → RangeAsked
    → F → F → Numbers → Type 0
FoldsFiles {g} kept folded =
    FoldsARange over_files kept folded (λ store left. AreClean g left.log left.db → AreFolded store left)

-- Files of these names were sealed, in order, and their lines printed. What was added to the record of the run, if that is
-- known, is what belongs to each line. These operations of a ledger agree with the lines, and with the numbers of the
-- outputs that were given up.
pub record AreSealed (under : SealedUnder) (names : List (List ℕ)) (operations : List Entry) (status : ℕ)
    (old new : Printed) (before after : Option RunRecord) : Type 0 where
  pub worked : HaveAdded (λ name. IsOfSealing) (AddsSealed under) names status old new before after
  pub voids : List ℕ
  pub given_up : Grows (λ added. voids ≡ given_up_in added) before after
  pub accounts : Accounts worked.lines voids operations

-- The same over one legal history. No number is in two lines, and none is open.
pub record HasSealed (under : SealedUnder) (names : List (List ℕ)) (terms : Terms) (history : List Entry)
    (status : ℕ) (old new : Printed) (before after : Option RunRecord) : Type 0 where
  pub sealed : AreSealed under names history status old new before after
  pub numbered : AreNumbered terms.range sealed.worked.lines
  pub legal : Legal terms history
  pub settled : IsSettled history

-- what a journal got, if one was asked for: this text, or a proper prefix of it
abbrev pub IsWritten : {J : Type 0} → (J → Option (List ℕ)) → List ℕ → Bool → Option J → Option J → Type 0
IsWritten taken text whole None None = whole ≡ true
IsWritten taken text true (Some old) (Some new) = Appends (taken old) (taken new) text
IsWritten taken text false (Some old) (Some new) =
    AppendsFront (taken old) (taken new) text × LacksSome (taken old) (taken new) text
IsWritten taken text whole None (Some new) = ⊥
IsWritten taken text whole (Some old) None = ⊥
