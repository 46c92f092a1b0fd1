-- What a call does to its connection: `old` is the connection before it, `new` after it.
--
-- A disk may fail at any call. What a connection shows is known if the disk is clean and the connection open.
use Rattle.std.specs.Prelude.{◌≡◌, IsTrue, true, List}
use Rattle.sqlite_trees.specs.declared.store.Store.{Ghosts}
use Rattle.sqlite.specs.Order.{Row}
use Rattle.sqlite.specs.Held.{Held, state}
use Rattle.sqlite.specs.State.{HasCleanDisk, KeepsCommit, Shows, Survives}

-- the rows of `mark`, as the connection sees them
abbrev pub marks_in : {S : Type 0} → Ghosts S → Held S → List Row
marks_in g h = (state g h).now.trees 0

-- the rows of `taken`, as the connection sees them
abbrev pub taken_in : {S : Type 0} → Ghosts S → Held S → List Row
taken_in g h = (state g h).now.trees 2

-- a fact about a connection that is open over a clean disk
abbrev pub WhileOpen : {S : Type 0} → Ghosts S → Held S → Type 0 → Type 0
WhileOpen g h fact = HasCleanDisk (state g h) → IsTrue (state g h).is_open → fact

-- no call opens a connection
abbrev pub WasOpen : {S : Type 0} → Ghosts S → Held S → Held S → Type 0
WasOpen g old new = WhileOpen g new (IsTrue (state g old).is_open)

-- the same tables and rows, as the connection sees them and as the last commit left them
abbrev pub Unchanged : {S : Type 0} → Ghosts S → Held S → Held S → Type 0
Unchanged g old new = ((state g new).now ≡ (state g old).now) × ((state g new).committed ≡ (state g old).committed)

-- unchanged, if no write waited for a commit
abbrev pub OnlyRead : {S : Type 0} → Ghosts S → Held S → Held S → Type 0
OnlyRead g old new = WhileOpen g new ((state g old).now ≡ (state g old).committed → Unchanged g old new)

-- open before and after, and unchanged
abbrev pub StillShows : {S : Type 0} → Ghosts S → Held S → Held S → Type 0
StillShows g old new =
    Shows (state g old) (state g new) (state g old).now (state g old).committed (state g old).in_transaction

-- a crash leaves nothing that it could not have left before
abbrev pub CommitsNothing : {S : Type 0} → Ghosts S → Held S → Held S → Type 0
CommitsNothing g old new = Survives (state g old) (state g new) (λ _. ⊥)

-- ---- a call inside a transaction

-- a fact about a call made inside a transaction over a clean disk
abbrev pub Inside : {S : Type 0} → Ghosts S → Held S → Held S → Type 0 → Type 0
Inside g old new fact = HasCleanDisk (state g new) → IsTrue (state g old).in_transaction → fact

-- nothing that it shows has changed
abbrev pub ReadInside : {S : Type 0} → Ghosts S → Held S → Held S → Type 0
ReadInside g old new = Shows (state g old) (state g new) (state g old).now (state g old).committed true

-- what it wrote is visible, and waits for the commit
abbrev pub Wrote : {S : Type 0} → Ghosts S → Held S → Held S → Type 0
Wrote g old new = Shows (state g old) (state g new) (state g new).now (state g old).committed true

-- nothing that was committed changes
abbrev pub KeepsCommitted : {S : Type 0} → Ghosts S → Held S → Held S → Type 0
KeepsCommitted g old new = Inside g old new (KeepsCommit (state g old) (state g new))
