-- A stream and its line.
use Rattle.std.proofs.Common.{◌≡◌, ◌∙◌, ℕ, List, [], ◌∷◌, Option, None, Some, Result, refl, sym, ap, ap₂, subst}
use Rattle.std.specs.Prelude.{IfSome, option_map}
use Rattle.container_core.specs.declared.fault.SealFault.{SealFault}
use Rattle.io_core.specs.Views.{IoView, io_view}
use Rattle.sealing_core.specs.Piped.{HasPipedContainer}
use Rattle.journal_core.specs.declared.entry.Entry.{Entry}
use Rattle.journal_core.specs.declared.terms.Terms.{Terms}
use Rattle.journal_core.specs.History.{Legal}
use Rattle.journal_core.specs.Range.{Numbers, prefix_of}
use Rattle.ledger_core.specs.Closing.{AreAllSeats, IsWhole}
use Rattle.ledger_core.specs.Shared.{LedgerView, SeatView}
use Rattle.ledger_core.specs.declared.fault.IssueFault.{IssueFault}
use Rattle.ledger_core.specs.declared.fault.IssueFault.TheVariants as issue_fault
use Rattle.folder_core.specs.Changes.{Becomes, IsNew, IsNewStream, allowed, started, stream_name}
use Rattle.folder_core.specs.Record.{Container, RunRecord}
use Rattle.command_core.specs.declared.line.FileFault.{FileFault}
use Rattle.command_core.specs.declared.line.FileFault.TheVariants.{NoNumber, Unsealed}
use Rattle.command_core.specs.declared.line.FileOutcome.{FileOutcome}
use Rattle.command_core.specs.declared.line.FileOutcome.TheVariants.{Sealed, Failed}
use Rattle.command_core.specs.Turns.{Printed}
use Rattle.command_core.specs.Work.{AreTold}
use Rattle.sealer_core.specs.Piping.{HasSealedStream, IsPiped, Pipes, PipeView, WorksStream}
use Rattle.sealer_core.specs.Sealing.{SealedUnder, line_of, operations_of, unissued_as}
use Rattle.sealer_core.proofs.Numbering.{accounts_whole, are_numbered, is_settled}

-- ---- before it is in hand

pub new_of : (place : ℕ) (rest : Option RunRecord) → IfSome rest (IsNewStream place) → IfSome rest (IsNew place)
new_of place None new = tt
new_of place (Some r) new = new.0

-- ---- what became of it

-- nothing was touched
pub works_failed : (under : SealedUnder) (place : ℕ) (v : PipeView) (why : IssueFault) (fault : FileFault) → fault ≡ unissued_as why
    → WorksStream under place v v (Failed fault) []
works_failed under place v why fault is = subst (λ f. WorksStream under place v v (Failed f) []) (sym is) (of why)
  where
    same : (rest : Option RunRecord) → Becomes (λ r. r) rest rest
    same None = tt
    same (Some r) = (r, refl, refl)

    of : (why : IssueFault) → WorksStream under place v v (Failed (unissued_as why)) []
    of issue_fault.Exhausted = (refl, (refl, same v.rest))
    of issue_fault.SeatClosed = (refl, (refl, same v.rest))
    of issue_fault.OutOfMemory = (refl, (refl, same v.rest))

-- it was taken in hand, and the engine ended so: what it had taken before stays
pub pipes : (under : SealedUnder) (place number device : ℕ) (left left' : Option (List ℕ)) (reads reads' : Option ℕ) (taken ready taken' : Option (List ℕ))
    (failures between failures' : Option ℕ) (before allows after : Option RunRecord) (result : Result ℕ SealFault)
    → (ready ≡ taken) × (between ≡ failures) → device ≡ under.device → Becomes (allowed place (Container number under.shape)) before allows → after ≡ allows
    → HasPipedContainer under.key under.shape (prefix_of device number) under.most (io_view left reads ready between) (io_view left' reads' taken' failures') result
    → Pipes under place (record { stream = io_view left reads taken failures; rest = before }) (record { stream = io_view left' reads' taken' failures'; rest = after })
    number result
pipes under place number device left left' reads reads' taken ready taken' failures between failures' before allows after result same of allows_it is did = (
  subst (Becomes (allowed place (Container number under.shape)) before) (sym is) allows_it,
  subst (λ d. HasPipedContainer under.key under.shape (prefix_of d number) under.most (io_view left reads taken failures) (io_view left' reads' taken' failures') result) of
      (subst (λ v. HasPipedContainer under.key under.shape (prefix_of device number) under.most v (io_view left' reads' taken' failures') result)
      (ap₂ (io_view left reads) same.0 same.1) did),
)

-- ---- the run

-- what changed since the record got its key changed of the record with the key
module _ (key : List ℕ) (range : Numbers) (before mid : Option RunRecord) (came : Becomes (started key range) before mid) where
  becomes_since : (change : RunRecord → RunRecord) (after : Option RunRecord) → Becomes change mid after
      → Becomes change (option_map (started key range) before) after
  becomes_since change None became = tt
  becomes_since change (Some r) (m, is_mid, is) =
      let (was, known, begun) = subst (Becomes (started key range) before) is_mid came in
      (m, ap (option_map (started key range)) known ∙ ap Some (sym begun), is)

  works_since : (under : SealedUnder) (place : ℕ) (stream : IoView) (new : PipeView) (outcome : FileOutcome) (voids : List ℕ)
      → WorksStream under place (record { stream = stream; rest = mid }) new outcome voids
      → WorksStream under place (record { stream = stream; rest = option_map (started key range) before }) new outcome voids
  works_since under place stream new (Sealed number bytes) voids (none, (became, did)) = (none, (becomes_since _ new.rest became, did))
  works_since under place stream new (Failed NoNumber) voids (none, (same, became)) = (none, (same, becomes_since _ new.rest became))
  works_since under place stream new (Failed (Unsealed fault)) [] (refused, (same, became)) = (refused, (same, becomes_since _ new.rest became))
  works_since under place stream new (Failed (Unsealed fault)) (number ∷ []) (became, did) = (becomes_since _ new.rest became, did)
  works_since under place stream new outcome voids works = absurd works

-- over the whole history
pub has_stream : (under : SealedUnder) (place : ℕ) (key : List ℕ) (ledger : LedgerView) (terms : Terms) (seats : List SeatView) (history : List Entry) (stream ready : IoView)
    (before mid : Option RunRecord) (new : PipeView) (outcome : FileOutcome) (status : ℕ) (old line : Printed)
    → ledger.terms ≡ terms → ready ≡ stream → Becomes (started key terms.range) before mid → AreAllSeats ledger seats → IsWhole ledger.terms seats history
    → IsPiped under place (record { stream = ready; rest = mid }) new (operations_of seats) outcome
    → AreTold status (line_of stream_name outcome ∷ []) old.taken line.taken old.failures line.failures
    → HasSealedStream under place (record { stream = stream; rest = option_map (started key terms.range) before }) new terms history status old line
has_stream under place key ledger terms seats history stream ready before mid new outcome status old line is same came all whole piped told =
    let lines = line_of stream_name outcome ∷ [] in
    let accounts = accounts_whole lines piped.voids ledger seats history all whole piped.accounts in
    let legal : Legal terms history = subst (λ t. Legal t history) is whole.legal in
    record {
      outcome = outcome;
      piped = record {
        voids = piped.voids;
        works = works_since key terms.range before mid came under place stream new outcome piped.voids
            (subst (λ s. WorksStream under place (record { stream = s; rest = mid }) new outcome piped.voids) same piped.works);
        accounts = accounts;
      };
      told = told;
      numbered = are_numbered terms history lines piped.voids legal accounts;
      legal = legal;
      settled = is_settled terms history lines piped.voids legal accounts;
    }
