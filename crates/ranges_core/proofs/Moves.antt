-- What moving the mark does if the key ID and device have one row.
use Rattle.std.proofs.Common.{◌≡◌, ℕ, pos, List, [], ◌∷◌, filter, Result, Ok, Err, OnOk, refl, sym, ap, subst, ◌∙◌, inl}
use Rattle.std.specs.List.{AllByRecursion}
use Rattle.sqlite.specs.declared.types.Value.TheVariants.{Int, Blob}
use Rattle.sqlite.specs.Order.{Row}
use Rattle.sqlite.specs.Edit.{id_in}
use Rattle.sqlite.specs.Tree.{rowid}
use Rattle.sqlite.specs.declared.error.Error.{Error}
use Rattle.sqlite.specs.Effect.{Database}
use Rattle.sqlite.specs.State.{State, ExecutesInside}
use Rattle.sqlite_rules.specs.Lists.{Has}
use Rattle.sqlite_rules.proofs.ListLemmas.{all_has, all_from, has_filtered}
use Rattle.ranges_core.specs.Tables.{IsLedger}
use Rattle.ranges_core.specs.Reads.{is_for}
use Rattle.ranges_core.specs.Reservations.{IsMarkRow}
use Rattle.ranges_core.specs.Writes.{Entered, Marked, Moved}
use Rattle.ranges_core.proofs.Asks.{picks}
use Rattle.ranges_core.proofs.Effects.{updates}
use Rattle.ranges_core.proofs.Owners.{picks_marks, filter_same, same_owner}
use Rattle.ranges_core.proofs.Texts.{move_text, of_owner}

pub moves_inside : (old new : State) (key : List ℕ) (device next : ℕ) (r : Row) (result : Result ℕ Error) → IsLedger old.now.schema → AllByRecursion IsMarkRow (old.now.trees 0)
    → filter (is_for key device) (old.now.trees 0) ≡ r ∷ [] → ExecutesInside 0 move_text (Blob key ∷ Int (pos device) ∷ Int (pos next) ∷ []) old new result
    → OnOk result (Moved old.now new.now key device next (id_in (rowid r)))
moves_inside old new key device next r (Err e) has lawful one h = tt
moves_inside old new key device next r (Ok count) has lawful one h =
    let rows = old.now.trees 0 in
    let found = has_filtered (is_for key device) rows r (subst (λ l. Has l r) (sym one) (inl refl)) in
    let it = all_has IsMarkRow rows r lawful found.0 in
    let params = Blob key ∷ Int (pos device) ∷ Int (pos next) ∷ [] in
    let picked : filter (picks of_owner params) rows ≡ filter (is_for key device) rows =
    filter_same (picks of_owner params) (is_for key device) rows (all_from _ rows (λ x there. picks_marks key device (Int (pos next) ∷ []) x (all_has IsMarkRow rows x lawful there))) in
    let mine = rw (it.is_key, it.is_device) at found.1 in
    let owner = same_owner it.key key it.device device mine in
    let moved = updates has.0 has.1 old new key it.key device it.device next it.id r count has.2 (picked ∙ one) it.is_id it.is_key it.is_device h.0 in
    subst (λ i. Moved old.now new.now key device next i) (sym (ap id_in it.is_id))
    (subst (λ k. Moved old.now new.now k device next it.id) owner.0 (subst (λ d. Moved old.now new.now it.key d next it.id) owner.1 moved))

-- both ways to write the mark
pub entered_is : (db after : Database) (key : List ℕ) (device next : ℕ) (rows : List Row) → rows ≡ [] → Entered db after key device next → Marked db after key device next rows
entered_is db after key device next rows none h = subst (Marked db after key device next) (sym none) h

pub moved_is : (db after : Database) (key : List ℕ) (device next : ℕ) (rows : List Row) (r : Row) → rows ≡ r ∷ [] → Moved db after key device next (id_in (rowid r)) → Marked db after key device next rows
moved_is db after key device next rows r one h = subst (Marked db after key device next) (sym one) h

pub marked_schema : (db after : Database) (key : List ℕ) (device next : ℕ) (rows : List Row) → Marked db after key device next rows → after.schema ≡ db.schema
marked_schema db after key device next [] h = h.schema
marked_schema db after key device next (r ∷ []) h = h.schema
marked_schema db after key device next (r ∷ s ∷ more) h = absurd h
