-- What `pipe_all` does with a stream, and how its line agrees with the operations of the ledger.
use Rattle.std.specs.Prelude.{◌≡◌, ◌<◌, ◌≤◌, ℕ, Bool, true, false, List, [], ◌∷◌, Option, Result, Ok, Err}
use Rattle.container_core.specs.declared.fault.SealFault.{SealFault}
use Rattle.container_core.specs.declared.fault.SealFault.TheVariants as sealing_fault
use Rattle.io_core.specs.Views.{IoView, io_view}
use Rattle.sealing_core.specs.Piped.{HasPipedContainer}
use Rattle.journal_core.specs.declared.entry.Entry.{Entry}
use Rattle.journal_core.specs.declared.terms.Terms.{Terms}
use Rattle.journal_core.specs.History.{Legal}
use Rattle.journal_core.specs.Range.{prefix_of}
use Rattle.folder_core.specs.Changes.{Becomes, allowed, stream_name}
use Rattle.folder_core.specs.Record.{Container, RunRecord}
use Rattle.command_core.specs.declared.line.FileFault.TheVariants.{NoNumber, Unsealed}
use Rattle.command_core.specs.declared.line.FileOutcome.{FileOutcome}
use Rattle.command_core.specs.declared.line.FileOutcome.TheVariants.{Sealed, Failed}
use Rattle.command_core.specs.Printing.{Complains}
use Rattle.command_core.specs.Turns.{Printed}
use Rattle.command_core.specs.Work.{AreTold}
use Rattle.sealer_core.specs.declared.piping.PipeOptions.{PipeOptions}
use Rattle.sealer_core.specs.Sealing.{Accounts, AreNumbered, IsSettled, SealedUnder, line_of}

-- ---- options

-- the limited options of a run: the chunks of the stream, and how many workers and chunks at a time there are
pub record IsLawfulPipe (options : PipeOptions) : Type 0 where
  pub max_chunks : 0 < options.max_chunks
  pub workers : (0 < options.workers) × (options.workers ≤ 16)
  pub depth : (0 < options.depth) × (options.depth ≤ 64)

-- ---- what was read and written

-- A stream at a moment, and the record of its run but for the bytes of the output in hand.
pub record PipeView : Type 0 where
  pub stream : IoView
  pub rest : Option RunRecord

abbrev pub pipe_view : Option (List ℕ) → Option ℕ → Option (List ℕ) → Option ℕ → Option RunRecord → PipeView
pipe_view left read_failures taken write_failures rest =
    record { stream = io_view left read_failures taken write_failures; rest = rest }

-- The output at this place is the stream, which was such, and is such now. It may have as many chunks as `under` says.
module _ (under : SealedUnder) (place : ℕ) (old new : PipeView) where
  -- It was taken in hand under this number, and no other output was. Then the engine ended so.
  abbrev pub Pipes : ℕ → Result ℕ SealFault → Type 0
  Pipes number result = Becomes (allowed place (Container number under.shape)) old.rest new.rest
      × HasPipedContainer under.key under.shape (prefix_of under.device number) under.most old.stream new.stream result

  -- Nothing was read or written, and the record is the same.
  abbrev pub IsUntouched : Type 0
  IsUntouched = (new.stream ≡ old.stream) × Becomes (λ r. r) old.rest new.rest

  -- `sealed`: the engine sealed the whole stream under the number in the line, which has its length too. A fault of the
  -- sealing: the engine ended with it under a void number; without one, memory was refused first, and nothing was
  -- touched. No number: nothing was touched. No stream has more than one void number.
  abbrev pub WorksStream : FileOutcome → List ℕ → Type 0
  WorksStream (Sealed number bytes) voids = (voids ≡ []) × Pipes number (Ok bytes)
  WorksStream (Failed NoNumber) voids = (voids ≡ []) × IsUntouched
  WorksStream (Failed (Unsealed fault)) [] = (fault ≡ sealing_fault.OutOfMemory) × IsUntouched
  WorksStream (Failed (Unsealed fault)) (number ∷ []) = Pipes number (Err fault)
  WorksStream _ voids = ⊥

-- ---- the line and the numbers

-- A stream was processed, and these void numbers and these operations of a ledger agree with its line.
pub record IsPiped (under : SealedUnder) (place : ℕ) (old new : PipeView) (operations : List Entry)
    (outcome : FileOutcome) : Type 0 where
  pub voids : List ℕ
  pub works : WorksStream under place old new outcome voids
  pub accounts : Accounts (line_of stream_name outcome ∷ []) voids operations

-- The same over one legal history, with a number of the range, and none is open. Its line was printed.
pub record HasSealedStream (under : SealedUnder) (place : ℕ) (old new : PipeView) (terms : Terms) (history : List Entry)
    (status : ℕ) (before after : Printed) : Type 0 where
  pub outcome : FileOutcome
  pub piped : IsPiped under place old new history outcome
  pub told : AreTold status (line_of stream_name outcome ∷ []) before.taken after.taken before.failures after.failures
  pub numbered : AreNumbered terms.range (line_of stream_name outcome ∷ [])
  pub legal : Legal terms history
  pub settled : IsSettled history

-- what standard error took after the line: nothing if the journal is whole, else a complaint, or a prefix of one
abbrev pub FollowsLine : Bool → Printed → Printed → Type 0
FollowsLine true line new = new ≡ line
FollowsLine false line new = Complains line.taken new.taken
