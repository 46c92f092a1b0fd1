-- Internal: how a file begins and its output ends, with one lane and with several; and what becomes of a group's files.
use Rattle.std.specs.Prelude.{⊤, ◌≡◌, ◌≢◌, ℕ, suc, ◌+◌, ◌<◌, ◌≤◌, Bool, true, false, nat_eq, if◌then◌else◌, List, []}
use Rattle.std.specs.Prelude.{◌∷◌, ◌++◌, length, map, drop, All, count_by, slice_get, Option, None, Some, IfSome}
use Rattle.std.specs.Prelude.{Result, Ok, Err}
use Rattle.journal_core.specs.declared.entry.Entry.{Entry}
use Rattle.journal_core.specs.declared.entry.Event.{Event}
use Rattle.journal_core.specs.declared.entry.Event.TheVariants.{Settled}
use Rattle.journal_core.specs.declared.entry.Way.{Way}
use Rattle.journal_core.specs.declared.entry.Way.TheVariants as ended
use Rattle.journal_core.specs.History.{entry, times_granted, times_settled}
use Rattle.journal_core.specs.Range.{Numbers, prefix_of}
use Rattle.io_core.specs.Streams.{IsFront, counted}
use Rattle.container_core.specs.Container.{container}
use Rattle.container_core.specs.Faults.{is_failed_read}
use Rattle.container_core.specs.Shape.{ShapeView}
use Rattle.container_core.specs.declared.fault.SealFault.{SealFault}
use Rattle.container_core.specs.declared.fault.SealFault.TheVariants as sealing_fault
use Rattle.crew_core.specs.declared.outcome.Outcome.{Outcome}
use Rattle.crew_core.specs.declared.outcome.Outcome.TheVariants as job
use Rattle.crew_core.specs.Batch.{IsOutcome, of_seat, seat_of}
use Rattle.ledger_core.specs.Closing.{AreAllSeats}
use Rattle.ledger_core.specs.Shared.{LedgerView, SeatView}
use Rattle.command_core.specs.declared.line.FileOutcome.{FileOutcome}
use Rattle.command_core.specs.declared.line.FileOutcome.TheVariants.{Sealed, Failed}
use Rattle.command_core.specs.declared.line.FileFault.{FileFault}
use Rattle.command_core.specs.declared.line.FileFault.TheVariants.{CannotCreate, OutOfMemory, OutputExists}
use Rattle.command_core.specs.declared.line.FileFault.TheVariants.{Unsealed}
use Rattle.command_core.specs.Files.{AddsFiles}
use Rattle.command_core.specs.Lines.{FileLine}
use Rattle.command_core.specs.Putting.{once_if}
use Rattle.command_core.specs.Turns.{Printed}
use Rattle.command_core.specs.Work.{AreTold}
use Rattle.folder_core.specs.declared.fault.FolderFault.{FolderFault}
use Rattle.folder_core.specs.declared.fault.FolderFault.TheVariants as folder_fault
use Rattle.folder_core.specs.Changes.{Becomes, Closes, IsNew, allowed, closed_at, new_output}
use Rattle.folder_core.specs.Growth.{with_entries}
use Rattle.folder_core.specs.Record.{Container, Content, Created, Finished, GivenUp, Happened, Nothing, RunRecord, State}
use Rattle.folder_core.specs.Record.{times_begun}
use Rattle.folder_core.specs.Record as record_of
use Rattle.sealer_core.specs.declared.context.PipeContext.{PipeContext}
use Rattle.sealer_core.specs.declared.context.SealContext.{SealContext}
use Rattle.sealer_core.specs.declared.prepare.Prepared.{Prepared}
use Rattle.sealer_core.specs.declared.prepare.Prepared.TheVariants as prepared
use Rattle.sealer_core.specs.Sealing.{AddsSealed, IsOfSealing, IsWhyGivenUp, PutsSealed, SealedUnder, given_up_in, line_of}
use Rattle.sealer_core.specs.Sealing.{operations_of, sealed_name, sealed_under, times_in, times_sealed, times_told}
use Rattle.sealer_core.specs.Sealing.{times_voided, unissued_as}

-- ---- between the sealing and the lines

-- the outcome has spent this number
abbrev pub holds : ℕ → Outcome → Bool
holds number (job.Sealed seat bytes spent) = nat_eq number spent.number
holds number (job.Spoiled seat spent) = nat_eq number spent.number
holds number (job.Unissued seat fault) = false

-- its number is of this device, and ended as it says
abbrev pub HasEnded : ℕ → Outcome → Type 0
HasEnded device (job.Sealed seat bytes spent) = (spent.device ≡ device) × (spent.way ≡ ended.Sealed)
HasEnded device (job.Spoiled seat spent) = (spent.device ≡ device) × (spent.way ≡ ended.Void)
HasEnded device (job.Unissued seat fault) = ⊤

-- it names one of `seats` seats, and its number is of this device, and ended as it says
abbrev pub IsOfSeats : ℕ → ℕ → Outcome → Type 0
IsOfSeats seats device o = (seat_of o < seats) × HasEnded device o

-- Lines, void numbers and operations of a ledger agree, while the numbers of these outcomes are granted and not yet
-- settled.
pub record AreHeld (lines : List FileLine) (voids : List ℕ) (outcomes : List Outcome) (operations : List Entry)
    : Type 0 where
  pub told : (number : ℕ) → times_sealed number operations ≡ times_told number lines
  pub voided : (number : ℕ) → times_voided number operations ≡ times_in number voids
  pub granted : (number : ℕ) → (times_told number lines + times_voided number operations)
      + count_by (holds number) outcomes ≡ times_granted number operations

-- Of the numbers that a seat was granted, these outcomes name those that it hasn't settled yet.
pub record AreOwed (seats : List SeatView) (outcomes : List Outcome) : Type 0 where
  pub each : (i number : ℕ) (seat : SeatView) → slice_get seats i ≡ Some seat
      → times_settled number seat.mine + count_by (holds number) (of_seat i outcomes) ≡ times_granted number seat.mine

-- All seats are there, and they owe the numbers that these outcomes have spent.
pub record AreOwing (ledger : LedgerView) (seats : List SeatView) (outcomes : List Outcome) : Type 0 where
  pub all : AreAllSeats ledger seats
  pub held : All (IsOfSeats (length seats) ledger.terms.range.device) outcomes
  pub owed : AreOwed seats outcomes

-- the number is one of the ledger's device, and the seat at this place was granted it and hasn't settled it
abbrev pub OwesAt : LedgerView → List SeatView → ℕ → ℕ → ℕ → Type 0
OwesAt ledger seats place device number = (place < length seats) × (device ≡ ledger.terms.range.device)
    × ((seat : SeatView) → slice_get seats place ≡ Some seat
    → times_settled number seat.mine < times_granted number seat.mine)

-- the seat at this place settled the number, and the others did nothing
pub record SettledAt (place number : ℕ) (old new : List SeatView) : Type 0 where
  pub here : (before after : SeatView) → slice_get old place ≡ Some before → slice_get new place ≡ Some after
      → (way : Way) × (after.mine ≡ before.mine ++ entry before.number (Settled number way) ∷ [])
  pub others : (i : ℕ) → i ≢ place → slice_get new i ≡ slice_get old i

-- the operations are those and this event of some seat, in any order
abbrev pub IsCounted : List Entry → List Entry → Event → Type 0
IsCounted old new event = (seat : ℕ)
    × ((p : Entry → Bool) → count_by p new ≡ count_by p old + (if p (entry seat event) then 1 else 0))

-- a number that was granted is settled as its line says
abbrev pub IsEnding : ℕ → List Entry → List Entry → FileOutcome → Type 0
IsEnding number old new (Sealed n bytes) = (n ≡ number) × IsCounted old new (Settled number ended.Sealed)
IsEnding number old new _ = IsCounted old new (Settled number ended.Void)

-- ---- the record and the ledger

-- The record is of this key and range, nothing is in hand, and each number that an output has is settled.
pub record IsKeyed (key : List ℕ) (range : Numbers) (operations : List Entry) (r : RunRecord) : Type 0 where
  pub keyed : r.under ≡ Some (record { key = key; range = range })
  pub idle : r.in_hand ≡ None
  pub settled : (number : ℕ) → 0 < times_begun number r.entries → 0 < times_settled number operations

-- The same of a record that may be unknown, over the range of a ledger with these seats.
abbrev pub AreKeyed : SealContext → List SeatView → Option RunRecord → Type 0
AreKeyed context seats rest = IfSome rest (IsKeyed context.key.now context.ledger.now.terms.range (operations_of seats))

-- The record has this key and the range of the ledger, nothing is in hand, and no output has a number.
pub record IsStarted (key : List ℕ) (range : Numbers) (r : RunRecord) : Type 0 where
  pub keyed : r.under ≡ Some (record { key = key; range = range })
  pub idle : r.in_hand ≡ None
  pub none : (number : ℕ) → times_begun number r.entries ≡ 0

-- what the files of a run are sealed under, and its stream
abbrev pub under_in : SealContext → SealedUnder
under_in context = sealed_under context.key.now context.options.now.shape.now context.ledger.now.terms.range.device
    context.options.now.max_bytes

abbrev pub piped_under : PipeContext → SealedUnder
piped_under context = sealed_under context.key.now context.options.now.shape.now context.ledger.now.terms.range.device
    context.options.now.max_chunks

-- no number was granted twice
pub record AreGrantedOnce (operations : List Entry) : Type 0 where
  pub once : (number : ℕ) → times_granted number operations ≤ 1

-- what was sealed for a job is the container of some plaintext, under the prefix of its number
abbrev pub IsContainerUnder : List ℕ → ShapeView → Outcome → Type 0
IsContainerUnder key shape (job.Sealed seat bytes spent) =
    (plain : List ℕ) × (bytes.items ≡ container key shape (prefix_of spent.device spent.number) plain)
IsContainerUnder key shape (job.Spoiled seat spent) = ⊤
IsContainerUnder key shape (job.Unissued seat fault) = ⊤

-- ---- how a file ends

-- How an output ends, by how its sealing ended under this number: if all was sealed it is finished, or couldn't be.
abbrev pub OutputEndsBy : Result ℕ SealFault → ℕ → FileOutcome → Type 0
OutputEndsBy (Ok bytes) number (Sealed n m) = (n ≡ number) × (m ≡ bytes)
OutputEndsBy (Ok bytes) number end = end ≡ Failed (Unsealed sealing_fault.Write)
OutputEndsBy (Err fault) number end = end ≡ Failed (Unsealed fault)

-- The output in hand was closed so: finished, or given up. A refused end counts as a failed write.
abbrev pub ClosesBy : Result ℕ SealFault → FileOutcome → Option RunRecord → Option (List ℕ) → Option ℕ
    → Option RunRecord → Type 0
ClosesBy sealed (Sealed n m) before taken failures after = Closes Finished before taken failures after
ClosesBy (Ok bytes) end before taken failures after = Closes GivenUp before taken (counted true failures) after
ClosesBy (Err fault) end before taken failures after = Closes GivenUp before taken failures after

-- why a file has no output
abbrev pub uncreated_as : FolderFault → FileFault
uncreated_as folder_fault.Exists = OutputExists
uncreated_as folder_fault.Failed = CannotCreate

-- What a reader has left is more than `most` bytes, as far as it is known.
abbrev pub IsLonger : ℕ → Option RunRecord → Option (List ℕ) → Type 0
IsLonger most rest left = IfSome rest (λ _. IfSome left (λ input. most < length input))

-- What a reader has left is known, if the record is.
abbrev pub IsKnownLeft : Option RunRecord → Option (List ℕ) → Type 0
IsKnownLeft rest left = IfSome rest (λ _. (input : List ℕ) × (left ≡ Some input))

-- What comes for the output of this name, of an input that a reader has left: one entry. These are its void numbers.
abbrev pub PutsLeft : SealedUnder → List ℕ → Option (List ℕ) → FileOutcome → List ℕ → List record_of.Entry → Type 0
PutsLeft under output left outcome void new = (input : List ℕ) × (put : record_of.Entry) × (left ≡ Some input)
    × PutsSealed under output input outcome put × (void ≡ given_up_in (put ∷ [])) × (new ≡ put ∷ [])

-- the void number of a file whose sealing was granted this number: none if the file was sealed
abbrev pub void_at : ℕ → FileOutcome → List ℕ
void_at number (Sealed n bytes) = []
void_at number _ = number ∷ []

-- ---- files of a group before the sealing

abbrev pub name_of : {H : Type 0} → Prepared H → List ℕ
name_of (prepared.Refused name fault) = name.now
name_of (prepared.Unread name output fault) = name.now
name_of (prepared.Read name output bytes) = name.now

-- how many bytes it has, if it was read
abbrev pub read_of : {H : Type 0} → Prepared H → List ℕ
read_of (prepared.Refused name fault) = []
read_of (prepared.Unread name output fault) = []
read_of (prepared.Read name output bytes) = bytes ∷ []

-- whether its reader failed
abbrev pub read_failed_of : {H : Type 0} → Prepared H → Bool
read_failed_of (prepared.Refused name fault) = false
read_failed_of (prepared.Unread name output fault) = is_failed_read fault
read_failed_of (prepared.Read name output bytes) = false

-- its fault, if it has one, is one of sealing
abbrev pub IsPrepared : {H : Type 0} → Prepared H → Type 0
IsPrepared (prepared.Refused name fault) = IsOfSealing (Failed fault)
IsPrepared (prepared.Unread name output fault) = IsOfSealing (Failed (Unsealed fault))
IsPrepared (prepared.Read name output bytes) = ⊤

-- none of these entries is an output
abbrev pub AreEvents : List record_of.Entry → Type 0
AreEvents [] = ⊤
AreEvents (Created output ∷ entries) = ⊥
AreEvents (Happened event ∷ entries) = AreEvents entries

-- the entries of a file that was read and closed, while its output waits
abbrev pub waiting_entries : List ℕ → List ℕ → Bool → List record_of.Entry
waiting_entries name input failed = Happened (record_of.Read name input) ∷ Created (new_output (sealed_name name))
    ∷ Happened (record_of.Closed name (once_if failed)) ∷ []

module _ {H : Type 0} (at : H → ℕ) where
  -- The output of a file of this input waits at this place. The input is among those to be sealed, or it wasn't read.
  abbrev pub IsOfInput : ℕ → ℕ → List ℕ → Prepared H → List (List ℕ) → Type 0
  IsOfInput most place input (prepared.Refused name fault) own = ⊥
  IsOfInput most place input (prepared.Unread name output fault) own = (at output ≡ place) × (own ≡ [])
      × IsWhyGivenUp most (Unsealed fault) input Nothing []
  IsOfInput most place input (prepared.Read name output bytes) own = (at output ≡ place) × (own ≡ input ∷ [])
      × (bytes ≡ length input) × (length input ≤ most)

  -- These entries came for a file, the first at this place. If it has no output they are all.
  abbrev pub IsWaiting : SealedUnder → Prepared H → List (List ℕ) → ℕ → List record_of.Entry → Type 0
  IsWaiting under (prepared.Refused name fault) own place new = (own ≡ [])
      × AddsSealed under name.now (Failed fault) new × AreEvents new
  IsWaiting under file own place new = (input : List ℕ) × IsOfInput under.most (suc place) input file own
      × (new ≡ waiting_entries (name_of file) input (read_failed_of file))

  -- The same for files in turn, and the inputs that are to be sealed.
  abbrev pub AreWaiting : SealedUnder → List (Prepared H) → List (List ℕ) → ℕ → List record_of.Entry → Type 0
  AreWaiting under [] inputs place new = (inputs ≡ []) × (new ≡ [])
  AreWaiting under (file ∷ files) inputs place new = (own : List (List ℕ)) × (others : List (List ℕ))
      × (first : List record_of.Entry) × (rest : List record_of.Entry) × IsWaiting under file own place first
      × AreWaiting under files others (place + length first) rest × (inputs ≡ own ++ others) × (new ≡ first ++ rest)

  -- These files were prepared in turn, and the record has what came for them.
  abbrev pub HavePrepared : SealedUnder → List (Prepared H) → List (List ℕ) → Option RunRecord → Option RunRecord → Type 0
  HavePrepared under files inputs before after = IfSome after (λ r. (was : RunRecord) × (new : List record_of.Entry)
      × (before ≡ Some was) × AreWaiting under files inputs (length was.entries) new × (r ≡ with_entries new was))

  -- One file was, and its input, if it was read, is the last of the jobs.
  abbrev pub HasPrepared : SealedUnder → List (List ℕ) → List (List ℕ) → Prepared H → Option RunRecord → Option RunRecord
      → Type 0
  HasPrepared under jobs jobs' file before after = IfSome after (λ r. (was : RunRecord) × (new : List record_of.Entry)
      × (own : List (List ℕ)) × (before ≡ Some was) × IsWaiting under file own (length was.entries) new
      × (jobs' ≡ jobs ++ own) × (r ≡ with_entries new was))

  -- Its output, if it has one, waits.
  abbrev pub IsNewIn : Prepared H → RunRecord → Type 0
  IsNewIn (prepared.Refused name fault) r = ⊤
  IsNewIn (prepared.Unread name output fault) r = IsNew (at output) r
  IsNewIn (prepared.Read name output bytes) r = IsNew (at output) r

-- ---- how a file of a group ends

-- The output at this place was taken in hand and closed with these bytes, after so many failed writes.
abbrev pub filled : ℕ → Content → State → List ℕ → ℕ → RunRecord → RunRecord
filled place content state bytes failures r = closed_at place state bytes failures (allowed place content r)

-- It was finished with all of these bytes, and the line says its number and the length of the file. Or a write failed, or
-- the end, and it was given up with a prefix.
abbrev pub IsPut : ℕ → Content → List ℕ → ℕ → ℕ → FileOutcome → Option RunRecord → Option RunRecord → Type 0
IsPut place content bytes number long (Sealed n m) before after = (n ≡ number) × (m ≡ long)
    × Becomes (filled place content Finished bytes 0) before after
IsPut place content bytes number long end before after = (end ≡ Failed (Unsealed sealing_fault.Write))
    × IfSome after (λ _. (held : List ℕ) × IsFront held bytes
    × Becomes (filled place content GivenUp held 1) before after)

-- The output at this place was given up, and was never in hand.
abbrev pub IsAbandoned : ℕ → Option RunRecord → Option RunRecord → Type 0
IsAbandoned place before after = Becomes (closed_at place GivenUp [] 0) before after

-- A file of `long` bytes ends by the first outcome, and its output at this place. If there is no outcome, memory for
-- outcomes was refused.
abbrev pub IsEndBy : ℕ → ShapeView → ℕ → List Outcome → FileOutcome → Option RunRecord → Option RunRecord → Type 0
IsEndBy place shape long [] end before after = (end ≡ Failed (Unsealed sealing_fault.OutOfMemory))
    × IsAbandoned place before after
IsEndBy place shape long (job.Sealed seat bytes spent ∷ outcomes) end before after =
    IsPut place (Container spent.number shape) bytes.items spent.number long end before after
IsEndBy place shape long (job.Spoiled seat spent ∷ outcomes) end before after =
    (end ≡ Failed (Unsealed sealing_fault.OutOfMemory))
    × Becomes (filled place (Container spent.number shape) GivenUp [] 0) before after
IsEndBy place shape long (job.Unissued seat fault ∷ outcomes) end before after = (end ≡ Failed (unissued_as fault))
    × IsAbandoned place before after

-- A file ends by its own fault or, if it was read, by the first outcome.
abbrev pub IsEndIn : {H : Type 0} → (H → ℕ) → ShapeView → List Outcome → Prepared H → FileOutcome → Option RunRecord
    → Option RunRecord → Type 0
IsEndIn at shape outcomes (prepared.Refused name fault) end before after = (end ≡ Failed fault) × (after ≡ before)
IsEndIn at shape outcomes (prepared.Unread name output fault) end before after = (end ≡ Failed (Unsealed fault))
    × IsAbandoned (at output) before after
IsEndIn at shape outcomes (prepared.Read name output bytes) end before after =
    IsEndBy (at output) shape bytes outcomes end before after

-- the outcomes left for the files after it: a file that was read uses up the first, any other file none
abbrev pub left_by : {H : Type 0} → Prepared H → List Outcome → List Outcome
left_by (prepared.Refused name fault) outcomes = outcomes
left_by (prepared.Unread name output fault) outcomes = outcomes
left_by (prepared.Read name output bytes) outcomes = drop 1 outcomes

-- the void number of the file, if it has one: that of its outcome, unless the file was sealed
abbrev pub void_by : List Outcome → FileOutcome → List ℕ
void_by [] end = []
void_by (job.Sealed seat bytes spent ∷ outcomes) end = void_at spent.number end
void_by (job.Spoiled seat spent ∷ outcomes) end = spent.number ∷ []
void_by (job.Unissued seat fault ∷ outcomes) end = []

abbrev pub void_in : {H : Type 0} → Prepared H → List Outcome → FileOutcome → List ℕ
void_in (prepared.Refused name fault) outcomes end = []
void_in (prepared.Unread name output fault) outcomes end = []
void_in (prepared.Read name output bytes) outcomes end = void_by outcomes end

-- One outcome for each of these inputs, in their order; or none for those that are left.
abbrev pub AreLeft : SealedUnder → List (List ℕ) → List Outcome → Type 0
AreLeft under inputs [] = ⊤
AreLeft under [] (o ∷ outcomes) = ⊥
AreLeft under (input ∷ inputs) (o ∷ outcomes) = IsOutcome under.key under.shape input o × HasEnded under.device o
    × AreLeft under inputs outcomes

-- ---- the lines of a group

-- These entries came for the files of these lines, and these are the numbers of the outputs that were given up.
abbrev pub AddsLines : SealedUnder → List FileLine → List ℕ → List record_of.Entry → Type 0
AddsLines under lines voids new = AddsFiles (AddsSealed under) lines new × (voids ≡ given_up_in new)

-- The record has what came for the files that have lines, and after it what came for those that wait.
abbrev pub AreEndingIn : {H : Type 0} → (H → ℕ) → SealedUnder → List FileLine → List ℕ → List (Prepared H)
    → List Outcome → Option RunRecord → Option RunRecord → Type 0
AreEndingIn at under lines voids files outcomes before after = IfSome after (λ r. (was : RunRecord)
    × (done : List record_of.Entry) × (rest : List record_of.Entry) × (inputs : List (List ℕ)) × (before ≡ Some was)
    × AddsLines under lines voids done × AreLeft under inputs outcomes
    × AreWaiting at under files inputs (length was.entries + length done) rest
    × (r ≡ with_entries (done ++ rest) was))

-- the lines of files for which memory was refused before anything was done with them
abbrev pub refused_lines : List (List ℕ) → List FileLine
refused_lines names = map (λ name. line_of name (Failed OutOfMemory)) names

-- A group at a moment: the outcomes that are left, the operations of its seats, the status so far, and what was printed.
pub record GroupView : Type 0 where
  pub outcomes : List Outcome
  pub operations : List Entry
  pub status : ℕ
  pub lines : Printed

abbrev pub group_view : List Outcome → List Entry → ℕ → Printed → GroupView
group_view outcomes operations status lines =
    record { outcomes = outcomes; operations = operations; status = status; lines = lines }

-- Files of a group have these lines, in order. Status and operations are correct after them if they were before.
pub record AreEnded (happened : List FileLine → List ℕ → Type 0) (names : List (List ℕ)) (old new : GroupView)
    : Type 0 where
  pub lines : List FileLine
  pub voids : List ℕ
  pub named : map (λ line. line.name) lines ≡ names
  pub fitting : All (λ line. IsOfSealing line.outcome) lines
  pub told : (before : List FileLine) (first : Option (List ℕ)) (count : Option ℕ)
      → AreTold old.status before first old.lines.taken count old.lines.failures
      → AreTold new.status (before ++ lines) first new.lines.taken count new.lines.failures
  pub accounts : (before : List FileLine) (earlier : List ℕ) → AreHeld before earlier old.outcomes old.operations
      → AreHeld (before ++ lines) (earlier ++ voids) new.outcomes new.operations
  pub done : happened lines voids
