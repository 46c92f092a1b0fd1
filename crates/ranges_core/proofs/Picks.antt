-- What the queries return, in terms of the rows of the two tables.
use Rattle.std.proofs.Common.{true, IsTrue, ◌≡◌, ◌≤◌, ℕ, pos, List, [], ◌∷◌, map, filter, codes, Option, Some, None, Result, Ok, IfOk, IfErr, refl, sym, ap, subst, ◌∙◌, inl, IsPermutation, arith}
use Rattle.std.proofs.lemmas.List.Sorted.{length_permutation}
use Rattle.std.specs.List.{AllByRecursion}
use Rattle.sqlite.specs.declared.types.Value.TheVariants.{Null, Int, Blob}
use Rattle.sqlite.specs.Order.{Row}
use Rattle.sqlite.specs.Program.{overlay}
use Rattle.sqlite.specs.Listing.{understood}
use Rattle.sqlite.specs.Schema.{Schema}
use Rattle.sqlite.specs.Effect.{Database}
use Rattle.sqlite.specs.State.{State, IsUnchanged, Shown, Shows}
use Rattle.sqlite.specs.Term.{col}
use Rattle.sqlite.proofs.Callers.{IsPlain, reads_as, one_permutation}
use Rattle.sqlite_rules.specs.Lists.{Has}
use Rattle.sqlite_rules.proofs.ListLemmas.{all_has, all_from, has_filtered}
use Rattle.ranges_core.specs.declared.fault.ReserveFault.{ReserveFault}
use Rattle.ranges_core.specs.Faults.{IsRefusal}
use Rattle.ranges_core.specs.Tables.{IsLedger, ledger_schema}
use Rattle.ranges_core.specs.Reads.{is_for, next_text, marks_text, takings_text, ids_text, ranges_text, shown_range, shown_next, shown_mark, shown_taken, shown_id}
use Rattle.ranges_core.specs.Reservations.{IsMarkRow, IsTakenRow, IsNext, next_of, number_in, Lists, HoldLists}
use Rattle.ranges_core.specs.Writes.{IsMarkOf}
use Rattle.ranges_core.proofs.Asks.{answers, picks, shown_same}
use Rattle.ranges_core.proofs.Owners.{picks_marks, picks_taken, filter_same}
use Rattle.ranges_core.proofs.Texts.{shows, next_query, next_is, next_plain, next_unlisted, ranges_query, ranges_are, ranges_plain, ranges_unlisted, marks_query, marks_are, marks_plain, marks_unlisted, takings_query, takings_are, takings_plain, takings_unlisted, ids_query, ids_are, ids_plain, ids_unlisted, of_owner}

pub picks_next : (old new : State) (key : List ℕ) (device : ℕ) (rows : List Row) → IsLedger old.now.schema → AllByRecursion IsMarkRow (old.now.trees 0)
    → Shown next_text (Blob key ∷ Int (pos device) ∷ []) old new rows → IsPermutation (map shown_next (filter (is_for key device) (old.now.trees 0))) rows
picks_next old new key device rows has lawful h =
    let c = has.0 in
    let d = has.1 in
    let params : Row = Blob key ∷ Int (pos device) ∷ [] in
    let marks = old.now.trees 0 in
    let read = reads_as next_text params old new (ledger_schema c d) has.2 (shows next_query (codes "next" ∷ [])) (next_is c d) (next_plain c d) (next_unlisted c d) rows h in
    let found = answers 0 of_owner (col 1 3 ∷ []) [] (overlay old.now.trees []) params rows (read.answer Null) in
    let picked = filter_same (picks of_owner params) (is_for key device) marks (all_from _ marks (λ x there. picks_marks key device [] x (all_has IsMarkRow marks x lawful there))) in
    subst (λ l. IsPermutation (map shown_next l) rows) picked found

pub picks_ranges : (old new : State) (key : List ℕ) (device : ℕ) (rows : List Row) → IsLedger old.now.schema → AllByRecursion IsTakenRow (old.now.trees 2)
    → Shown ranges_text (Blob key ∷ Int (pos device) ∷ []) old new rows → IsPermutation (map shown_range (filter (is_for key device) (old.now.trees 2))) rows
picks_ranges old new key device rows has lawful h =
    let c = has.0 in
    let d = has.1 in
    let params : Row = Blob key ∷ Int (pos device) ∷ [] in
    let taken = old.now.trees 2 in
    let read = reads_as ranges_text params old new (ledger_schema c d) has.2 (shows ranges_query (codes "lo" ∷ codes "size" ∷ [])) (ranges_are c d) (ranges_plain c d) (ranges_unlisted c d) rows h in
    let found = answers 2 of_owner (col 1 3 ∷ col 1 4 ∷ []) ranges_query.order (overlay old.now.trees []) params rows (read.answer Null) in
    let picked = filter_same (picks of_owner params) (is_for key device) taken (all_from _ taken (λ x there. picks_taken key device [] x (all_has IsTakenRow taken x lawful there))) in
    subst (λ l. IsPermutation (map shown_range l) rows) picked found

-- ---- whole tables

filter_true : (rows : List Row) → filter (λ r. true) rows ≡ rows
filter_true [] = refl
filter_true (r ∷ rows) = ap (λ l. r ∷ l) (filter_true rows)

module _ (old new : State) (rows : List Row) (has : IsLedger old.now.schema) where
  pub reads_marks : Shown marks_text [] old new rows → IsPermutation (map shown_mark (old.now.trees 0)) rows
  reads_marks h =
      let c = has.0 in let d = has.1 in
      let read = reads_as marks_text [] old new (ledger_schema c d) has.2 (shows marks_query (codes "rowid" ∷ codes "key_id" ∷ codes "device" ∷ codes "next" ∷ [])) (marks_are c d) (marks_plain c d) (marks_unlisted c d) rows h in
      subst (λ l. IsPermutation (map shown_mark l) rows) (filter_true (old.now.trees 0))
      (answers 0 [] (col 1 0 ∷ col 1 1 ∷ col 1 2 ∷ col 1 3 ∷ []) marks_query.order (overlay old.now.trees []) [] rows (read.answer Null))

  pub reads_takings : Shown takings_text [] old new rows → IsPermutation (map shown_taken (old.now.trees 2)) rows
  reads_takings h =
      let c = has.0 in let d = has.1 in
      let read = reads_as takings_text [] old new (ledger_schema c d) has.2 (shows takings_query (codes "rowid" ∷ codes "key_id" ∷ codes "device" ∷ codes "lo" ∷ codes "size" ∷ [])) (takings_are c d) (takings_plain c d) (takings_unlisted c d) rows h in
      subst (λ l. IsPermutation (map shown_taken l) rows) (filter_true (old.now.trees 2))
      (answers 2 [] (col 1 0 ∷ col 1 1 ∷ col 1 2 ∷ col 1 3 ∷ col 1 4 ∷ []) takings_query.order (overlay old.now.trees []) [] rows (read.answer Null))

  pub reads_ids : Shown ids_text [] old new rows → IsPermutation (map shown_id (old.now.trees 0)) rows
  reads_ids h =
      let c = has.0 in let d = has.1 in
      let read = reads_as ids_text [] old new (ledger_schema c d) has.2 (shows ids_query (codes "rowid" ∷ [])) (ids_are c d) (ids_plain c d) (ids_unlisted c d) rows h in
      subst (λ l. IsPermutation (map shown_id l) rows) (filter_true (old.now.trees 0))
      (answers 0 [] (col 1 0 ∷ []) ids_query.order (overlay old.now.trees []) [] rows (read.answer Null))

  in_this : (sql : List ℕ) → IsPlain (understood old.now.schema sql) → IsTrue old.in_transaction → Shown sql [] old new rows → Shows old new old.now old.committed true
  in_this sql plain inside h =
      let same = (shown_same old new sql [] rows plain h).0 in
      record { was_open = same.was_open; is_open = same.is_open; now_is = same.now_is; committed_is = same.committed_is; mode = same.mode ∙ inside }

  pub marks_in : IsTrue old.in_transaction → Shown marks_text [] old new rows → Shows old new old.now old.committed true
  marks_in = in_this marks_text (subst (λ s. IsPlain (understood s marks_text)) (sym has.2) (marks_plain has.0 has.1))

  pub takings_in : IsTrue old.in_transaction → Shown takings_text [] old new rows → Shows old new old.now old.committed true
  takings_in = in_this takings_text (subst (λ s. IsPlain (understood s takings_text)) (sym has.2) (takings_plain has.0 has.1))

pub plain_marks : (s : Schema) → IsLedger s → IsPlain (understood s marks_text)
plain_marks s has = subst (λ x. IsPlain (understood x marks_text)) (sym has.2) (marks_plain has.0 has.1)

pub plain_takings : (s : Schema) → IsLedger s → IsPlain (understood s takings_text)
plain_takings s has = subst (λ x. IsPlain (understood x takings_text)) (sym has.2) (takings_plain has.0 has.1)

pub plain_ids : (s : Schema) → IsLedger s → IsPlain (understood s ids_text)
plain_ids s has = subst (λ x. IsPlain (understood x ids_text)) (sym has.2) (ids_plain has.0 has.1)

-- rows that were read since nothing changed
pub takings_since : (first old new : State) (rows : List Row) → IsLedger first.now.schema → IsUnchanged first old → Shown takings_text [] old new rows
    → IsPermutation (map shown_taken (first.now.trees 2)) rows
takings_since first old new rows has same h =
    let has_still = subst (λ (d : Database). IsLedger d.schema) (sym same.0.now_is) has in
    subst (λ (d : Database). IsPermutation (map shown_taken (d.trees 2)) rows) same.0.now_is (reads_takings old new rows has_still h)

-- ---- the mark of a key ID and device

no_row : (rows : List Row) → IsPermutation [] rows → rows ≡ []
no_row [] h = refl
no_row (y ∷ ys) h = absurd (omega (arith, length_permutation [] (y ∷ ys) h))

-- what was read is the mark
abbrev pub IsRead : List Row → Result (Option ℕ) ReserveFault → Type 0
IsRead own result = (mark : Option ℕ) × (result ≡ Ok mark) × IsMarkOf own mark

pub reads_mark : (marks taken : List Row) (lists : Lists) (key : List ℕ) (device : ℕ) (rows : List Row) (result : Result (Option ℕ) ReserveFault) → HoldLists marks taken lists
    → IsPermutation (map shown_next (filter (is_for key device) marks)) rows
    → (rows ≡ [] → result ≡ Ok None) → ((n : ℕ) → n ≤ 4294967296 → rows ≡ (Int (pos n) ∷ []) ∷ [] → result ≡ Ok (Some n)) → IsRead (filter (is_for key device) marks) result
reads_mark marks taken lists key device rows result hold same none one = go (filter (is_for key device) marks) refl same (hold.each key device).next
  where
    go : (own : List Row) → filter (is_for key device) marks ≡ own → IsPermutation (map shown_next own) rows → IsNext own (next_of (lists key device)) → IsRead own result
    go [] is h next = (None, none (no_row rows h), refl)
    go (r ∷ []) is h next =
        let found = has_filtered (is_for key device) marks r (subst (λ l. Has l r) (sym is) (inl refl)) in
        let it = all_has IsMarkRow marks r hold.of_marks found.0 in
        let shown : rows ≡ (Int (pos it.next) ∷ []) ∷ [] = one_permutation _ rows h ∙ ap (λ v. (v ∷ []) ∷ []) it.is_next in
        (Some it.next, one it.next it.bound shown, (r, refl, ap number_in it.is_next))
    go (r ∷ s ∷ more) is h next = absurd next

pub is_read : (own : List Row) (result : Result (Option ℕ) ReserveFault) → IsRead own result → IfOk result (IsMarkOf own)
is_read own result it = subst (λ r. IfOk r (IsMarkOf own)) (sym it.1) it.2

pub is_no_fault : (own : List Row) (result : Result (Option ℕ) ReserveFault) → IsRead own result → IfErr result IsRefusal
is_no_fault own result it = subst (λ r. IfErr r IsRefusal) (sym it.1) tt
