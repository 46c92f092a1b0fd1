-- What the writes of a reservation do to the rows.
use Rattle.std.specs.Prelude.{Option, Some, None, ◌≡◌, ◌≢◌, true, ℕ, ℤ, ◌+◌, List, [], ◌∷◌, filter}
use Rattle.sqlite.specs.Order.{Row}
use Rattle.sqlite.specs.Edit.{next_rowid, are_fresh, id_in}
use Rattle.sqlite.specs.Tree.{put_row, without_rowid, rowid, IsAscending}
use Rattle.sqlite.specs.Effect.{Database, IsDatabase}
use Rattle.sqlite.specs.State.{State}
use Rattle.ranges_core.specs.Tables.{no_schema, IsLedger}
use Rattle.ranges_core.specs.Reads.{is_for}
use Rattle.ranges_core.specs.Reservations.{mark_row, taken_row, next_in, Lists, Holds}

-- a row is inserted among rows that don't have its rowid
pub record Puts (rows after : List Row) (row : Row) : Type 0 where
  pub put : after ≡ put_row row rows
  pub fresh : are_fresh rows (row ∷ []) ≡ true

-- `taken` has this range added, no other row of the two tables differs, and the database obeys its schema
pub record Took (db after : Database) (key : List ℕ) (device lo size : ℕ) : Type 0 where
  pub schema : after.schema ≡ db.schema
  pub row : Puts (db.trees 2) (after.trees 2) (taken_row (next_rowid (db.trees 2)) key device lo size)
  pub marks : after.trees 0 ≡ db.trees 0
  pub sound : IsDatabase after

-- `mark` has this row added, and no other row of the two tables differs
pub record Entered (db after : Database) (key : List ℕ) (device next : ℕ) : Type 0 where
  pub schema : after.schema ≡ db.schema
  pub row : Puts (db.trees 0) (after.trees 0) (mark_row (next_rowid (db.trees 0)) key device next)
  pub taken : after.trees 2 ≡ db.trees 2

-- the only row of the key ID and device has another `next`, and no other row of the two tables differs
pub record Moved (db after : Database) (key : List ℕ) (device next : ℕ) (id : ℤ) : Type 0 where
  pub schema : after.schema ≡ db.schema
  pub row : Puts (without_rowid id (db.trees 0)) (after.trees 0) (mark_row id key device next)
  pub taken : after.trees 2 ≡ db.trees 2

-- the only row of the key ID and device gets this `next`, or is inserted if there was none
abbrev pub Marked : Database → Database → List ℕ → ℕ → ℕ → List Row → Type 0
Marked db after key device next [] = Entered db after key device next
Marked db after key device next (r ∷ []) = Moved db after key device next (id_in (rowid r))
Marked db after key device next (r ∷ s ∷ more) = ⊥

-- the mark is moved to the end of the range, and the range is recorded
pub record Appends (db after : Database) (key : List ℕ) (device lo size : ℕ) : Type 0 where
  pub between : Database
  pub marked : Marked db between key device (lo + size) (filter (is_for key device) (db.trees 0))
  pub took : Took between after key device lo size

-- the only row has this `next`, or there is no row
abbrev pub IsMarkOf : List Row → Option ℕ → Type 0
IsMarkOf rows None = rows ≡ []
IsMarkOf rows (Some next) = (r : Row) × (rows ≡ r ∷ []) × (next_in r ≡ next)

-- no two rows share a rowid
abbrev pub HaveRowids : List Row → Type 0
HaveRowids rows = IsAscending (λ a b. id_in (rowid a) ≢ id_in (rowid b)) rows

-- the tables hold lists, and no write waits for a commit
pub record IsReady (s : State) : Type 0 where
  pub settled : s.now ≡ s.committed
  pub lists : Lists
  pub hold : Holds s.now lists
  pub rowids : HaveRowids (s.now.trees 0)

-- both tables exist, and have no rows
pub record IsEmptyLedger (db : Database) : Type 0 where
  pub sound : IsDatabase db
  pub tables : IsLedger db.schema
  pub marks : db.trees 0 ≡ []
  pub taken : db.trees 2 ≡ []

-- there is no table, and no write waits for a commit
pub record IsBlank (s : State) : Type 0 where
  pub schema : s.now.schema ≡ no_schema
  pub settled : s.now ≡ s.committed
