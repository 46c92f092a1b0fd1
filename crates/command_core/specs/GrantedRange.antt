-- A range that the ledger file has for good.
use Rattle.std.specs.Prelude.{◌≡◌, ℕ, List, flat_map}
use Rattle.sha2.specs.Sha256.{sha256}
use Rattle.sqlite.specs.Held.{Held, state}
use Rattle.sqlite.specs.State.{State, HasCleanDisk}
use Rattle.sqlite_trees.specs.declared.store.Store.{Ghosts}
use Rattle.sqlite_trees.specs.Tree.{Trees}
use Rattle.journal_core.specs.declared.entry.Entry.{Entry}
use Rattle.journal_core.specs.Range.{IsLawfulRange, Numbers}
use Rattle.ledger_core.specs.Shared.{SeatView}
use Rattle.reserve_core.specs.Reservations.{Lists, Holds, next_of, with_range}
use Rattle.reserve_core.specs.Folded.{LeftBy}
use Rattle.reserve_core.specs.Lasting.{StillLast}

-- the operations of some seats, each seat's in order
abbrev pub operations_of : List SeatView → List Entry
operations_of seats = flat_map (λ seat. seat.mine) seats

-- A range of `count` numbers of the device was reserved. Where the database holds lists, the range is at the end of the
-- list of the key ID and device, and every crash leaves it there.
pub record IsReserved (key_id : List ℕ) (device count : ℕ) (old new : State) (range : Numbers) : Type 0 where
  pub asked : (range.device ≡ device) × (range.size ≡ count)
  pub appended : HasCleanDisk new → (lists : Lists) → Holds old.now lists
      → (range.lo ≡ next_of (lists key_id device)) × Holds new.now (with_range lists key_id device count)
  pub lasts : HasCleanDisk new → (trees : Trees) → new.may_leave trees → trees ≡ new.now.trees

-- What is asked for: so many numbers, of a device, under the key of this ID.
pub record RangeAsked : Type 0 where
  pub key_id : List ℕ
  pub device : ℕ
  pub count : ℕ

abbrev pub range_asked : List ℕ → ℕ → ℕ → RangeAsked
range_asked key_id device count = record { key_id = key_id; device = device; count = count }

-- It appended a range, whatever outlived a crash still does, and it was folded: the file has all this without its log.
abbrev pub FoldsARange : {S L F : Type 0} → Ghosts S → (Held S → F) → (L → F) → (S → L → Type 0) → RangeAsked
    → F → F → Numbers → Type 0
FoldsARange g kept folded is_folded asked old new range =
    (was : _) × (mid : _) × (left : _) × (old ≡ kept was) × (new ≡ folded left)
    × IsReserved asked.key_id asked.device asked.count (state g was) (state g mid) range × StillLast g was mid
    × LeftBy g is_folded mid left

-- The ledger file was folded with this range, and so has it for good. The range was reserved under this key, over a
-- file that a run had opened.
abbrev pub IsGrantedIn : {S L F : Type 0} → Ghosts S → (Held S → F) → (L → F) → (S → L → Type 0) → List ℕ → F → Numbers
    → Type 0
IsGrantedIn g kept folded is_folded key file range = (count : ℕ) × (before : _) × IsLawfulRange range
    × FoldsARange g kept folded is_folded (range_asked (sha256 key) range.device count) before file range
