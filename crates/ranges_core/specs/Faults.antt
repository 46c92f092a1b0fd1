-- The faults' numbers and texts, and when a database is not a ledger file.
use Rattle.std.specs.Prelude.{◌≡◌, ◌≢◌, ◌⊎◌, false, ℕ, List, ◌++◌, codes}
use Rattle.std.specs.Fmt.{decimal}
use Rattle.sqlite.specs.declared.error.ErrorCode.TheVariants as code
use Rattle.sqlite.specs.declared.error.Error.{Error}
use Rattle.sqlite.specs.declared.error.Error.TheVariants.{SqliteFailure}
use Rattle.sqlite.specs.Effect.{Database}
use Rattle.ranges_core.specs.declared.fault.ReserveFault.{ReserveFault}
use Rattle.ranges_core.specs.declared.fault.ReserveFault.TheVariants.{ZeroCount, TooMany, FieldSpent, Store, BadStore, BelowFloor, OutOfMemory}
use Rattle.ranges_core.specs.Tables.{are_readable, no_schema, IsLedger}
use Rattle.ranges_core.specs.Reservations.{Lists, HoldLists}

-- the schema is not empty, and one of the two tables cannot be read by its column names; or the rows of the tables hold
-- no lists
abbrev pub IsBad : Database → Type 0
IsBad db =
    ((db.schema ≢ no_schema) × (are_readable db.schema ≡ false))
    ⊎ (IsLedger db.schema × ((lists : Lists) → HoldLists (db.trees 0) (db.trees 2) lists → ⊥))

-- a refusal that says nothing of the tables and rows
abbrev pub IsRefusal : ReserveFault → Type 0
IsRefusal e = (e ≡ Store) ⊎ (e ≡ OutOfMemory)

-- the fault of a call to which the database answered with this error
abbrev pub fault_of : Error → ReserveFault
fault_of (SqliteFailure code.OutOfMemory) = OutOfMemory
fault_of _ = Store

abbrev pub fault_number : ReserveFault → ℕ
fault_number ZeroCount = 30
fault_number TooMany = 31
fault_number (FieldSpent left) = 32
fault_number Store = 33
fault_number BadStore = 34
fault_number BelowFloor = 35
fault_number OutOfMemory = 36

abbrev pub reserve_text : ReserveFault → List ℕ
reserve_text ZeroCount = codes "no files"
reserve_text TooMany = codes "too many files"
reserve_text (FieldSpent left) = decimal left ++ codes " numbers left"
reserve_text Store = codes "store failed"
reserve_text BadStore = codes "not a ledger"
reserve_text BelowFloor = codes "older than its witness"
reserve_text OutOfMemory = codes "out of memory"
