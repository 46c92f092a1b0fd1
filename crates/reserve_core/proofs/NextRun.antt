-- What one run leaves in the files is what the next run finds there.
use Rattle.std.proofs.Common.{◌≡◌, inl, inr, ℕ, List, [], ◌∷◌, ◌+◌, ◌≤◌, Some, sym, ap, subst, ◌∙◌, arith}
use Rattle.std.proofs.Math.Logic.{∥∥₁_elim, ∥∥₁_map}
use Rattle.std.specs.Prelude.{slice_get}
use Rattle.sqlite_disk.specs.declared.Disk.{Ghosts}
use Rattle.sqlite_disk.specs.declared.Files.{Files}
use Rattle.sqlite_trees.specs.declared.store.Store as trees
use Rattle.sqlite_trees.specs.Tree.{Trees}
use Rattle.sqlite_wal.specs.Files.{outcomes}
use Rattle.sqlite_wal.specs.Reads.{AreClean}
use Rattle.sqlite_wal.specs.Recovery.{Image}
use Rattle.sqlite_wal.proofs.LogLemmas.{SeenMayStay}
use Rattle.sqlite_store.specs.declared.store.FileStore.{FileStore}
use Rattle.sqlite_store.specs.FileStore as store
use Rattle.sqlite_store.specs.Laws.{settled_at, stays_at}
use Rattle.sqlite.specs.Closing.{IsCopied}
use Rattle.sqlite.specs.Effect.{Database}
use Rattle.sqlite.specs.Files.{HoldsDatabase, file_state, over_files}
use Rattle.sqlite.specs.Held.{Held, IsConnected, state}
use Rattle.sqlite.specs.Start.{FindsIn}
use Rattle.sqlite.specs.State.{State, HasCleanDisk, Opens}
use Rattle.sqlite.proofs.Theorems.{opens_again}
use Rattle.ranges_core.specs.Lasting.{Begins, Keeps, Last, StillLast}
use Rattle.ranges_core.specs.Reservations.{Lists, Holds, TakenRange, next_of, no_lists}
use Rattle.ranges_core.proofs.Behind.{behind, in_front}
use Rattle.ranges_core.proofs.Lasting.{next_run}
use Rattle.reserve_core.specs.Folded.{AreFolded, LeftBy}
use Rattle.reserve_core.specs.NextRun.{AreIn, IsFound, PassesOn, PassInTurn}

-- ---- what a keeper shows that was made of what a connection found

pub found_begins : {S : Type 0} (g : trees.Ghosts S) (files : Image) (keeper : Held S) (before lists : Lists) → AreIn before files
    → IsFound g files keeper → Holds (state g keeper).now lists → Begins before lists
found_begins g files keeper before lists are found hold =
    let shown = state g found.connection in
    let kept : State = record shown { may_leave = Keeps before } in
    let seen : ∥ Keeps before shown.now.trees ∥₁ =
    ∥∥₁_map are (λ it. subst (Keeps before) (sym (ap (λ (d : Database). d.trees) found.opens.clean ∙ found.finds.holds it.0 it.1)) it.2) in
    next_run kept before lists shown.now (state g keeper).now (λ trees may. may) seen (found.live found.opens.is_open).0 found.opened hold

pub holds_lists : {S : Type 0} (g : trees.Ghosts S) (files : Image) (keeper : Held S) → IsFound g files keeper
    → (lists : Lists) × Holds (state g keeper).now lists
holds_lists g files keeper found = elim found.opened [
  | inl none ↦ (no_lists, none.1)
  | inr same ↦ (same.0, subst (λ (db : Database). Holds db same.0) (sym same.2) same.1)
]

pub found_lasts : {S : Type 0} (g : trees.Ghosts S) (files : Image) (keeper : Held S) (before : Lists) → AreIn before files
    → IsFound g files keeper → Last (state g keeper) before
found_lasts g files keeper before are found trees may =
    let it = holds_lists g files keeper found in
    record {
      db = (state g keeper).now;
      lists = it.0;
      hold = it.1;
      begins = found_begins g files keeper before it.0 are found it.1;
      is = found.only trees may;
    }

-- ---- what is left in the files

module _ {D : Type 0} {g : Ghosts D} where
  pub crash_leaves : (was : Held (FileStore D g)) (before : Lists) → HasCleanDisk (file_state was)
      → IsConnected (store.view was.store) (store.recovers was.store) was.schema was.saved was.in_transaction
      → Last (file_state was) before → (files : Image) → (store.state was.store).may_leave files → AreIn before files
  crash_leaves was before clean kept last files may =
      ∥∥₁_map (opens_again was.store (kept.numbered clean) (kept.found clean) files may) (λ it. (it.0, it.2, last it.0 it.1))

  abbrev pub IsFolded : Held (FileStore D g) → Files D → Type 0
  IsFolded was left = LeftBy over_files (λ store left. AreClean g left.log left.db → AreFolded store left) was left

  pub fold_leaves : (was : Held (FileStore D g)) (left : Files D) (before : Lists) → IsFolded was left → AreClean g left.log left.db
      → Keeps before (file_state was).committed.trees → (files : Image) → outcomes g left.log left.db files
      → AreIn before files × AreIn before (record files { log = [] })
  fold_leaves was left before by honest keeps files may =
      let folded = by.is honest in
      let undone = by.released.undone.kept folded.clean in
      let kept = (store.view by.store).committed in
      let same : kept ≡ (file_state was).committed.trees = undone.committed folded.is_open in
      let alone = folded.alone (by.released.numbered folded.clean) (by.released.sound folded.clean) files may in
      let has = subst (Keeps before) (sym same) keeps in
      (∥∥₁_map alone.both (λ it. (kept, it, has)), ∥∥₁_map alone.alone (λ it. (kept, it, has)))

  pub fold_clean : (was : Held (FileStore D g)) (left : Files D) → IsFolded was left → AreClean g left.log left.db
      → HasCleanDisk (file_state was)
  fold_clean was left by honest =
      let folded = by.is honest in
      let less = by.released.quiet.clean in
      omega (arith, folded.clean, less)

  pub fold_keeps : (was : Held (FileStore D g)) (left : Files D) (before : Lists) → SeenMayStay g → IsFolded was left
      → AreClean g left.log left.db → Last (file_state was) before → Keeps before (file_state was).committed.trees
  fold_keeps was left before stays by honest last =
      let folded = by.is honest in
      let undone = by.released.undone.kept folded.clean in
      let same : (store.view by.store).committed ≡ (file_state was).committed.trees = undone.committed folded.is_open in
      let may = by.released.quiet.outcomes _ (stays_at by.store stays folded.is_open) in
      subst (Keeps before) same (last (store.view by.store).committed may)

  -- after a crash, an open connection that found the files' database leaves exactly that database
  opened_lasts : (files : Image) (found : Held (FileStore D g)) (before : Lists) → SeenMayStay g → FindsIn files (file_state found)
      → Opens (file_state found) → (it : (db : Trees) × HoldsDatabase files db × Keeps before db) → Last (file_state found) before
  opened_lasts files found before stays finds opens it trees may =
      subst (Keeps before) (sym (settled_at found.store stays trees opens.is_open may ∙ finds.holds it.0 it.1)) it.2

  pub opened_leaves : (files later : Image) (found last : Held (FileStore D g)) → SeenMayStay g → FindsIn files (file_state found)
      → Opens (file_state found) → StillLast over_files found last → HasCleanDisk (file_state last)
      → IsConnected (store.view last.store) (store.recovers last.store) last.schema last.saved last.in_transaction
      → (store.state last.store).may_leave later → PassesOn files later
  opened_leaves files later found last stays finds opens still clean kept may before are =
      ∥∥₁_elim are squash₁ (λ it. crash_leaves last before clean kept (still clean before (opened_lasts files found before stays finds opens it)) later may)

  close_leaves : (last : Held (FileStore D g)) (left : Files D) (before : Lists) → SeenMayStay g → IsCopied last left
      → Last (file_state last) before → (later : Image) → outcomes g left.log left.db later
      → AreIn before later × AreIn before (record later { log = [] })
  close_leaves last left before stays copied lasts later may =
      let kept = (file_state last).committed.trees in
      let has : Keeps before kept = lasts kept (stays_at last.store stays copied.was_open) in
      let alone = copied.left later may in
      (∥∥₁_map alone.both (λ it. (kept, it, has)), ∥∥₁_map alone.alone (λ it. (kept, it, has)))

  pub closed_leaves : (files later : Image) (found last : Held (FileStore D g)) (left : Files D) → SeenMayStay g
      → FindsIn files (file_state found) → Opens (file_state found) → StillLast over_files found last → IsCopied last left
      → outcomes g left.log left.db later → PassesOn files later × PassesOn files (record later { log = [] })
  closed_leaves files later found last left stays finds opens still copied may =
      let both : (before : Lists) → (it : (db : Trees) × HoldsDatabase files db × Keeps before db) → AreIn before later × AreIn before (record later { log = [] })
      = λ before it. close_leaves last left before stays copied (still copied.was_clean before (opened_lasts files found before stays finds opens it)) later may in
      (λ before are. ∥∥₁_elim are squash₁ (λ it. (both before it).0), λ before are. ∥∥₁_elim are squash₁ (λ it. (both before it).1))

-- ---- from run to run

pub passed : (files last : Image) (between : List Image) → PassInTurn files between last → PassesOn files last
passed files last [] on = on
passed files last (next ∷ more) on = λ before are. passed next last more on.1 before (on.0 before are)

pub reserves_behind : {S : Type 0} (g : trees.Ghosts S) (files last : Image) (between : List Image) (keeper : Held S) (before lists : Lists)
    → AreIn before files → PassInTurn files between last → IsFound g last keeper → Holds (state g keeper).now lists
    → (key : List ℕ) (device i : ℕ) (range : TakenRange) → slice_get (before key device) i ≡ Some range
    → range.lo + range.size ≤ next_of (lists key device)
reserves_behind g files last between keeper before lists are on found hold key device i range at =
    let begins = found_begins g last keeper before lists (passed files last between on before are) found hold key device in
    let there = in_front (before key device) (lists key device) i range begins at in
    (behind 0 (lists key device) i range (hold.rows.each key device).adjacent there).1
