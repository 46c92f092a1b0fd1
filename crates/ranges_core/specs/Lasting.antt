-- What survives a crash: whatever it leaves has lists that begin with those that were reserved.
use Rattle.std.specs.Prelude.{◌≡◌, ℕ, List, length, take}
use Rattle.sqlite.specs.Tree.{Trees}
use Rattle.sqlite.specs.Effect.{Database}
use Rattle.sqlite_trees.specs.declared.store.Store.{Ghosts}
use Rattle.sqlite.specs.Held.{Held, state}
use Rattle.sqlite.specs.State.{HasCleanDisk, State}
use Rattle.ranges_core.specs.Reservations.{Lists, Holds}

-- each key ID and device has the ranges that it had, then perhaps more
abbrev pub Begins : Lists → Lists → Type 0
Begins before now = (key : List ℕ) (device : ℕ) → take (length (before key device)) (now key device) ≡ before key device

-- these trees are those of a database whose lists begin with these
pub record Keeps (before : Lists) (trees : Trees) : Type 0 where
  pub db : Database
  pub lists : Lists
  pub hold : Holds db lists
  pub begins : Begins before lists
  pub is : trees ≡ db.trees

-- what any crash at this moment leaves
abbrev pub Last : State → Lists → Type 0
Last s before = (trees : Trees) → s.may_leave trees → Keeps before trees

-- a crash at this moment leaves exactly what the connection shows
abbrev pub LeavesOnlyThis : {S : Type 0} → Ghosts S → Held S → Type 0
LeavesOnlyThis g h = (trees : Trees) → (state g h).may_leave trees → trees ≡ (state g h).now.trees

-- a call that turned `old` into `new` loses nothing of it
abbrev pub StillLast : {S : Type 0} → Ghosts S → Held S → Held S → Type 0
StillLast g old new =
    HasCleanDisk (state g new) → (before : Lists) → Last (state g old) before → Last (state g new) before
