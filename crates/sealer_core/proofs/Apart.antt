-- The range of a later run is after that of an earlier one.
use Rattle.std.proofs.Common.{◌≡◌, ◌⊎◌, inl, inr, ℕ, List, [], ◌∷◌, ◌+◌, ◌≤◌, length, take, refl, sym, ap, subst, arith}
use Rattle.journal_core.specs.Range.{Numbers}
use Rattle.sqlite_disk.specs.declared.Disk.{Ghosts}
use Rattle.sqlite_disk.specs.declared.Files.{Files}
use Rattle.sqlite_wal.specs.Reads.{AreClean}
use Rattle.sqlite_wal.specs.Recovery.{Image}
use Rattle.sqlite_wal.proofs.LogLemmas.{SeenMayStay}
use Rattle.sqlite_store.specs.declared.store.FileStore.{FileStore}
use Rattle.sqlite.specs.Files.{file_state, over_files}
use Rattle.sqlite.specs.Held.{Held}
use Rattle.ranges_core.specs.Reservations.{Adjacent, Lists, TakenRange, end_from, next_of, taken_range, with_range}
use Rattle.ranges_core.proofs.Behind.{behind, own_range}
use Rattle.ranges_core.proofs.Lasting.{last_of}
use Rattle.reserve_core.specs.NextRun.{AreIn, IsFound, PassesOn}
use Rattle.reserve_core.proofs.NextRun.{IsFolded, fold_clean, fold_keeps, fold_leaves, found_begins, holds_lists}
use Rattle.sealer_core.specs.Sealing.{IsReserved}
use Rattle.sealer_core.specs.Theorem.{FoldsFrom, IsLeftOf}

-- a prefix of adjacent ranges ends no later than all of them
front_ends : (from : ℕ) (front list : List TakenRange) → Adjacent from list → take (length front) list ≡ front → end_from from front ≤ end_from from list
front_ends from [] [] adjacent begins = omega arith
front_ends from [] (r ∷ more) adjacent begins = let (lo, end) = behind from (r ∷ more) 0 r adjacent refl in omega arith
front_ends from (x ∷ front) [] adjacent begins = absurd (cc)
front_ends from (x ∷ front) (y ∷ more) adjacent begins =
    let first : y ≡ x = cc in
    let rest : take (length front) more ≡ front = cc in
    let (at, some, then) = adjacent in
    let here : end_from (y.lo + y.size) front ≡ end_from (from + y.size) front = ap (λ (m : ℕ). end_from (m + y.size) front) at in
    let there : end_from (y.lo + y.size) more ≡ end_from (from + y.size) more = ap (λ (m : ℕ). end_from (m + y.size) more) at in
    let same : end_from (y.lo + y.size) front ≡ end_from (x.lo + x.size) front = ap (λ (r : TakenRange). end_from (r.lo + r.size) front) first in
    let ends = front_ends (from + y.size) front more then rest in omega arith

left_in : (lists : Lists) (crashed files : Image) → AreIn lists crashed × AreIn lists (record crashed { log = [] })
    → (files ≡ crashed) ⊎ (files ≡ record crashed { log = [] }) → AreIn lists files
left_in lists crashed files are way = elim way [
  | inl whole ↦ subst (AreIn lists) (sym whole) are.0
  | inr alone ↦ subst (AreIn lists) (sym alone) are.1
]

-- what was reserved and folded over a keeper that was made of what was found
module _ {D : Type 0} {g : Ghosts D} (key : List ℕ) (device count : ℕ) (start : Image) (was mid : Held (FileStore D g)) (left : Files D) (range : Numbers)
    (found : IsFound over_files start was) (reserved : IsReserved key device count (file_state was) (file_state mid) range) (by : IsFolded mid left)
    (honest : AreClean g left.log left.db) where
  -- its range is after all that was found
  range_behind : (before : Lists) → AreIn before start → next_of (before key device) ≤ range.lo
  range_behind before are =
      let (lists, hold) = holds_lists over_files start was found in
      let lo = (reserved.appended (fold_clean mid left by honest) lists hold).0 in
      let first = front_ends 0 (before key device) (lists key device) (hold.rows.each key device).adjacent
      (found_begins over_files start was before lists are found hold key device) in omega arith

  -- and the next range over what is left is after it
  range_stands : SeenMayStay g → (files : Image) → IsLeftOf g left files
      → (lists : Lists) × AreIn lists files × (range.lo + range.size ≤ next_of (lists key device))
  range_stands stays files (crashed, may, way) =
      let (lists, hold) = holds_lists over_files start was found in
      let after = with_range lists key device count in
      let (lo, shown) = reserved.appended (fold_clean mid left by honest) lists hold in
      let last = last_of (file_state mid) after (reserved.lasts (fold_clean mid left by honest)) shown in
      let both = fold_leaves mid left after by honest (fold_keeps mid left after stays by honest last) crashed may in
      let end = (behind 0 (after key device) (length (lists key device)) (taken_range (next_of (lists key device)) count)
      (shown.rows.each key device).adjacent (own_range lists key device count)).1 in
      let size = reserved.asked.1 in
      (after, left_in after crashed files both way, omega arith)

-- a range that was folded: it is of the device and after what was found, and over what is left the next is after it
module _ {D F : Type 0} {g : Ghosts D} (kept : Held (FileStore D g) → F) (folded : Files D → F)
    (one_kept : (a b : Held (FileStore D g)) → kept a ≡ kept b → a ≡ b) (one_folded : (a b : Files D) → folded a ≡ folded b → a ≡ b)
    (key : List ℕ) (device : ℕ) (start : Image) (left : Files D) (range : Numbers) where
  pub fold_behind : FoldsFrom {g = g} kept folded key device start left range
      → (range.device ≡ device) × ((lists : Lists) → AreIn lists start → next_of (lists key device) ≤ range.lo)
  fold_behind (count, keeper, found, (was, mid, rest, from, to, reserved, still, by), honest) = (
    reserved.asked.0,
    range_behind key device count start keeper mid left range found
        (subst (λ k. IsReserved key device count (file_state k) (file_state mid) range) (sym (one_kept keeper was from)) reserved)
        (subst (IsFolded mid) (sym (one_folded left rest to)) by) honest,
  )

  pub fold_stands : FoldsFrom {g = g} kept folded key device start left range → SeenMayStay g → (files : Image) → IsLeftOf g left files
      → (lists : Lists) × AreIn lists files × (range.lo + range.size ≤ next_of (lists key device))
  fold_stands (count, keeper, found, (was, mid, rest, from, to, reserved, still, by), honest) =
      range_stands key device count start keeper mid left range found
      (subst (λ k. IsReserved key device count (file_state k) (file_state mid) range) (sym (one_kept keeper was from)) reserved)
      (subst (IsFolded mid) (sym (one_folded left rest to)) by) honest

-- so the range of a later run is after it
pub folds_apart : {D E F G : Type 0} {g : Ghosts D} {h : Ghosts E} (kept : Held (FileStore D g) → F) (folded : Files D → F) (holds : Held (FileStore E h) → G) (folds : Files E → G)
    → ((a b : Held (FileStore D g)) → kept a ≡ kept b → a ≡ b) → ((a b : Files D) → folded a ≡ folded b → a ≡ b)
    → ((a b : Held (FileStore E h)) → holds a ≡ holds b → a ≡ b) → ((a b : Files E) → folds a ≡ folds b → a ≡ b) → SeenMayStay g
    → (key : List ℕ) (device : ℕ) (one other : Numbers) (start files last : Image) (left : Files D) (rest : Files E)
    → FoldsFrom {g = g} kept folded key device start left one → IsLeftOf g left files → PassesOn files last → FoldsFrom {g = h} holds folds key device last rest other
    → one.lo + one.size ≤ other.lo
folds_apart kept folded holds folds one_kept one_folded one_holds one_folds stays key device one other start files last left rest first may on second =
    let (lists, are, ends) = fold_stands kept folded one_kept one_folded key device start left one first stays files may in
    let behind = (fold_behind holds folds one_holds one_folds key device last rest other second).1 lists (on lists are) in omega arith
