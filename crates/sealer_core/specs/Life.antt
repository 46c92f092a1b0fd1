-- The life of a ledger file, as one key and one device see it: the runs that reserved ranges in it, one after another.
use Rattle.std.specs.Prelude.{◌≡◌, ℕ, ◌≤◌, List, [], ◌∷◌, Option, Some, None, slice_get}
use Rattle.journal_core.specs.declared.entry.Event.TheVariants.{Granted}
use Rattle.journal_core.specs.declared.entry.Entry.{Entry}
use Rattle.journal_core.specs.Range.{most_device, number_limit, range_of}
use Rattle.journal_core.specs.History.{Legal, entry}
use Rattle.ranges_core.specs.Reservations.{TakenRange, Adjacent, next_of}
use Rattle.sealer_core.specs.Theorem.{Position}

-- one run
pub data LedgerRun : Type 0 where
  -- its reservation was refused, or a crash or a failing disk cut it off: it appended nothing, or this range. The run had
  -- no ledger
  Unacknowledged : Option TakenRange → LedgerRun
  -- its reservation was acknowledged: it appended this range, and a ledger with this number of seats over it did this
  Acknowledged : TakenRange → ℕ → List Entry → LedgerRun

-- the ranges that the runs appended, in order
abbrev pub reserved : List LedgerRun → List TakenRange
reserved [] = []
reserved (Unacknowledged None ∷ rest) = reserved rest
reserved (Unacknowledged (Some r) ∷ rest) = r ∷ reserved rest
reserved (Acknowledged r seats history ∷ rest) = r ∷ reserved rest

-- a life: the ranges of all runs are adjacent, the first begins at 0 and the last ends at 2 ^ 32 at most. What a ledger did
-- is legal over its range; it may stop anywhere
pub record IsLife (device : ℕ) (runs : List LedgerRun) : Type 0 where
  pub three_bytes : device ≤ most_device
  pub adjacent : Adjacent 0 (reserved runs)
  pub end : next_of (reserved runs) ≤ number_limit
  pub legal : (i seats : ℕ) (r : TakenRange) (history : List Entry) → slice_get runs i ≡ Some (Acknowledged r seats history)
      → Legal (record { range = range_of device r.lo r.size; seats = seats }) history

-- the lives of one key: a life for each device
abbrev pub Lives : Type 0
Lives = ℕ → List LedgerRun

-- At this place a number was granted: by a device's run, as an entry of what its ledger did.
pub record IsGrantAt (lives : Lives) (place : Position) : Type 0 where
  pub life : IsLife place.device (lives place.device)
  pub range : TakenRange
  pub seats : ℕ
  pub history : List Entry
  pub at_run : slice_get (lives place.device) place.run ≡ Some (Acknowledged range seats history)
  pub seat : ℕ
  pub number : ℕ
  pub at_entry : slice_get history place.entry ≡ Some (entry seat (Granted number))
