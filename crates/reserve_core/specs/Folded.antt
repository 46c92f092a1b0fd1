-- What is left of a connection after its log was copied into its file.
use Rattle.std.specs.Prelude.{◌≡◌, IsTrue}
use Rattle.sqlite_disk.specs.declared.Disk.{Ghosts}
use Rattle.sqlite_disk.specs.declared.Files.{Files}
use Rattle.sqlite_trees.specs.declared.store.Store as trees
use Rattle.sqlite_trees.specs.View.{IsClean, IsQuiet, IsRolledBack}
use Rattle.sqlite_store.specs.declared.store.FileStore.{FileStore}
use Rattle.sqlite_store.specs.FileStore.{view, faults, recovers, is_shielded, files}
use Rattle.sqlite_wal.specs.Files.{outcomes}
use Rattle.sqlite_wal.specs.Recovery.{Image}
use Rattle.sqlite.specs.Closing.{HoldsAlone}
use Rattle.sqlite.specs.Held.{Held, AreDatabases}

-- the connection's store, after what wasn't committed was rolled back
pub record IsReleased {S : Type 0} (g : trees.Ghosts S) (connection : Held S) (store : S) : Type 0 where
  pub numbered : IsClean (g.view store) → IsTrue (g.view store).is_numbered
  pub sound : IsClean (g.view store) → AreDatabases (g.recovers store)
  pub undone : IsRolledBack (g.view connection.store) (g.view store)
  pub quiet : IsQuiet g.view g.faults g.recovers g.is_shielded connection.store store

-- the connection's store, rolled back, left this, by the relation `is_left`
pub record LeftBy {S L : Type 0} (g : trees.Ghosts S) (is_left : S → L → Type 0) (connection : Held S) (left : L)
    : Type 0 where
  pub store : S
  pub released : IsReleased g connection store
  pub is : is_left store left

module _ {D : Type 0} {g : Ghosts D} where
  -- the two files that a store left
  pub record AreLeft (store : FileStore D g) (left : Files D) : Type 0 where
    pub last : FileStore D g
    pub these : files last ≡ (left.log, left.db)
    pub quiet : IsQuiet view faults recovers is_shielded store last

  -- If the disk returned what was written, whatever a crash leaves of the two files has the last commit, with the log
  -- and without it.
  pub record AreFolded (store : FileStore D g) (left : Files D) : Type 0 where
    pub clean : IsClean (view store)
    pub is_open : IsTrue (view store).is_open
    pub alone : IsTrue (view store).is_numbered → AreDatabases (recovers store) → (image : Image)
        → outcomes g left.log left.db image → HoldsAlone image (view store).committed
