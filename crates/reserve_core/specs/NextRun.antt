-- What one run leaves in the two files of a ledger, and what the next run finds there.
use Rattle.std.specs.Prelude.{List, [], ◌∷◌}
use Rattle.sqlite_trees.specs.declared.store.Store.{Ghosts}
use Rattle.sqlite_trees.specs.Tree.{Trees}
use Rattle.sqlite_wal.specs.Recovery.{Image}
use Rattle.sqlite.specs.Files.{HoldsDatabase}
use Rattle.sqlite.specs.Held.{Held, state}
use Rattle.sqlite.specs.Start.{FindsIn}
use Rattle.sqlite.specs.State.{IsLive, Opens}
use Rattle.ranges_core.specs.Lasting.{Keeps, LeavesOnlyThis}
use Rattle.ranges_core.specs.Reservations.{Lists, Opened}

-- the files hold a database, and its lists begin with these
abbrev pub AreIn : Lists → Image → Type 0
AreIn before files = ∥ ((db : Trees) × HoldsDatabase files db × Keeps before db) ∥₁

-- what the files held is still held after some runs
abbrev pub PassesOn : Image → Image → Type 0
PassesOn files later = (before : Lists) → AreIn before files → AreIn before later

-- each passes it on to the next: the list is what the runs between the first files and the last left
abbrev pub PassInTurn : Image → List Image → Image → Type 0
PassInTurn files [] last = PassesOn files last
PassInTurn files (next ∷ more) last = PassesOn files next × PassInTurn next more last

-- A keeper was made of what a connection found in the files.
pub record IsFound {S : Type 0} (g : Ghosts S) (files : Image) (keeper : Held S) : Type 0 where
  pub connection : Held S
  pub finds : FindsIn files (state g connection)
  pub opens : Opens (state g connection)
  pub live : IsLive (state g connection)
  pub opened : Opened (state g connection).now (state g keeper).now
  pub only : LeavesOnlyThis g keeper
