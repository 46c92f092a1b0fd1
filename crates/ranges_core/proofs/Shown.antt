-- If rows that were read hold lists, the tables hold the same lists.
use Rattle.std.proofs.Common.{◌≡◌, ℕ, List, [], ◌∷◌, map, filter, Bool, true, false, cond, refl, sym, ap, subst, ◌∙◌, IsPermutation}
use Rattle.std.specs.List.{AllByRecursion, IsDistinct, list_all}
use Rattle.std.specs.Ordering.{is_eq}
use Rattle.std.specs.declared.cmp.Ordering.{Ordering}
use Rattle.std.specs.declared.cmp.Ordering.TheVariants.{Less, Equal, Greater}
use Rattle.std.proofs.lemmas.Bool.{true≢false}
use Rattle.std.proofs.lemmas.Cmp.{tied_itself}
use Rattle.std.proofs.lemmas.Map.Keys.{IsDistinct-IsPermutation}
use Rattle.std.proofs.lemmas.List.Sorted.{IsPermutation-sym, IsPermutation-trans, IsPermutation-map, Contains-permutation}
use Rattle.sqlite.specs.declared.types.Value.TheVariants.{Int}
use Rattle.sqlite.specs.Order.{Row, column}
use Rattle.sqlite.specs.Edit.{id_in}
use Rattle.sqlite.specs.Tree.{IsAscending}
use Rattle.sqlite.specs.Effect.{Database}
use Rattle.sqlite_value.specs.Order.{value_cmp}
use Rattle.sqlite_value.proofs.OrderLemmas.{value_cmp_total}
use Rattle.sqlite_rules.specs.Lists.{Has}
use Rattle.sqlite_rules.proofs.ListLemmas.{all_has, all_from, has_contained, contains_had, has_filtered, test_from}
use Rattle.sqlite_keyed.proofs.ListLemmas.{IsPermutation-filter}
use Rattle.ranges_core.specs.Reads.{is_for, is_range_row, shown_id, shown_mark, shown_range, shown_taken}
use Rattle.ranges_core.specs.Reservations.{range_in, next_of, IsMarkRow, IsTakenRow, IsNext, IsList, HoldLists, Lists, Holds, no_lists}
use Rattle.ranges_core.specs.Runs.{Chain, IsBelow}
use Rattle.ranges_core.specs.Writes.{HaveRowids, IsEmptyLedger}
use Rattle.ranges_core.proofs.Reserve.{next_permuted}
use Rattle.ranges_core.proofs.Runs.{rowids_ascend}

permuted_has : {X : Type 0} (xs ys : List X) (x : X) → IsPermutation xs ys → Has xs x → Has ys x
permuted_has xs ys x p h = has_contained ys x (Contains-permutation xs ys x p (contains_had xs x h))

permuted_all : {X : Type 0} (P : X → Type 0) (xs ys : List X) → IsPermutation xs ys → AllByRecursion P ys → AllByRecursion P xs
permuted_all P xs ys p h = all_from P xs (λ x there. all_has P ys x h (permuted_has xs ys x p there))

-- ---- in another order

permuted_list : (marks taken m t : List Row) (key : List ℕ) (device : ℕ) (lists : Lists) → IsPermutation marks m → IsPermutation taken t → IsList m t key device (lists key device) → IsList marks taken key device (lists key device)
permuted_list marks taken m t key device lists p q list = record {
  permutes = IsPermutation-trans _ _ _ (IsPermutation-map range_in _ _ (IsPermutation-filter (is_for key device) taken t q)) list.permutes;
  adjacent = list.adjacent;
  next = next_permuted _ _ _ (IsPermutation-sym _ _ (IsPermutation-filter (is_for key device) marks m p)) list.next;
}

permuted_lists : (marks taken m t : List Row) (lists : Lists) → IsPermutation marks m → IsPermutation taken t → HoldLists m t lists → HoldLists marks taken lists
permuted_lists marks taken m t lists p q hold = record {
  of_marks = permuted_all IsMarkRow marks m p hold.of_marks;
  of_taken = permuted_all IsTakenRow taken t q hold.of_taken;
  each = λ key device. permuted_list marks taken m t key device lists p q (hold.each key device);
}

-- ---- as a query returns them

filter_shown : (p : Row → Bool) (f : Row → Row) → ((r : Row) → p (f r) ≡ p r) → (rows : List Row) → filter p (map f rows) ≡ map f (filter p rows)
filter_shown p f same [] = refl
filter_shown p f same (r ∷ rows) = rw (same r) (elim (p r) as (λ b. cond b (f r ∷ filter p (map f rows)) (filter p (map f rows)) ≡ map f (cond b (r ∷ filter p rows) (filter p rows)))
    [ true ↦ ap (λ l. f r ∷ l) (filter_shown p f same rows) | false ↦ filter_shown p f same rows ])

ranges_shown : (rows : List Row) → map range_in (map shown_taken rows) ≡ map range_in rows
ranges_shown [] = refl
ranges_shown (r ∷ rows) = ap (λ l. range_in r ∷ l) (ranges_shown rows)

next_shown : (rows : List Row) (n : ℕ) → IsNext (map shown_mark rows) n → IsNext rows n
next_shown [] n h = h
next_shown (r ∷ []) n h = h
next_shown (r ∷ s ∷ more) n h = h

next_shows : (rows : List Row) (n : ℕ) → IsNext rows n → IsNext (map shown_mark rows) n
next_shows [] n h = h
next_shows (r ∷ []) n h = h
next_shows (r ∷ s ∷ more) n h = h

all_shown : (P : Row → Type 0) (f : Row → Row) → ((r : Row) → P (f r) → P r) → (rows : List Row) → AllByRecursion P (map f rows) → AllByRecursion P rows
all_shown P f back [] h = tt
all_shown P f back (r ∷ rows) h = (back r h.0, all_shown P f back rows h.1)

all_shows : (P : Row → Type 0) (f : Row → Row) → ((r : Row) → P r → P (f r)) → (rows : List Row) → AllByRecursion P rows → AllByRecursion P (map f rows)
all_shows P f on [] h = tt
all_shows P f on (r ∷ rows) h = (on r h.0, all_shows P f on rows h.1)

mark_back : (r : Row) → IsMarkRow (shown_mark r) → IsMarkRow r
mark_back r it = record { id = it.id; key = it.key; device = it.device; next = it.next; owner = it.owner; bound = it.bound; is_id = it.is_id; is_key = it.is_key; is_device = it.is_device; is_next = it.is_next }

mark_on : (r : Row) → IsMarkRow r → IsMarkRow (shown_mark r)
mark_on r it = record { id = it.id; key = it.key; device = it.device; next = it.next; owner = it.owner; bound = it.bound; is_id = it.is_id; is_key = it.is_key; is_device = it.is_device; is_next = it.is_next }

taken_back : (r : Row) → IsTakenRow (shown_taken r) → IsTakenRow r
taken_back r it = record { key = it.key; device = it.device; lo = it.lo; size = it.size; owner = it.owner; is_key = it.is_key; is_device = it.is_device; is_lo = it.is_lo; is_size = it.is_size }

taken_on : (r : Row) → IsTakenRow r → IsTakenRow (shown_taken r)
taken_on r it = record { key = it.key; device = it.device; lo = it.lo; size = it.size; owner = it.owner; is_key = it.is_key; is_device = it.is_device; is_lo = it.is_lo; is_size = it.is_size }

shown_ranges : (key : List ℕ) (device : ℕ) (rows : List Row) → map range_in (filter (is_for key device) (map shown_taken rows)) ≡ map range_in (filter (is_for key device) rows)
shown_ranges key device rows = ap (map range_in) (filter_shown (is_for key device) shown_taken (λ r. refl) rows) ∙ ranges_shown (filter (is_for key device) rows)

shown_lists : (marks taken : List Row) (lists : Lists) → HoldLists (map shown_mark marks) (map shown_taken taken) lists → HoldLists marks taken lists
shown_lists marks taken lists hold = record {
  of_marks = all_shown IsMarkRow shown_mark mark_back marks hold.of_marks;
  of_taken = all_shown IsTakenRow shown_taken taken_back taken hold.of_taken;
  each = λ key device. let list = hold.each key device in record {
    permutes = subst (λ l. IsPermutation l (lists key device)) (shown_ranges key device taken) list.permutes;
    adjacent = list.adjacent;
    next = next_shown (filter (is_for key device) marks) (next_of (lists key device)) (subst (λ l. IsNext l (next_of (lists key device))) (filter_shown (is_for key device) shown_mark (λ r. refl) marks) list.next);
  };
}

lists_shown : (marks taken : List Row) (lists : Lists) → HoldLists marks taken lists → HoldLists (map shown_mark marks) (map shown_taken taken) lists
lists_shown marks taken lists hold = record {
  of_marks = all_shows IsMarkRow shown_mark mark_on marks hold.of_marks;
  of_taken = all_shows IsTakenRow shown_taken taken_on taken hold.of_taken;
  each = λ key device. let list = hold.each key device in record {
    permutes = subst (λ l. IsPermutation l (lists key device)) (sym (shown_ranges key device taken)) list.permutes;
    adjacent = list.adjacent;
    next = subst (λ l. IsNext l (next_of (lists key device))) (sym (filter_shown (is_for key device) shown_mark (λ r. refl) marks)) (next_shows (filter (is_for key device) marks) (next_of (lists key device)) list.next);
  };
}

module _ (marks taken m t : List Row) (p : IsPermutation (map shown_mark marks) m) (q : IsPermutation (map shown_taken taken) t) (lists : Lists) where
  pub lists_read : HoldLists m t lists → HoldLists marks taken lists
  lists_read hold = shown_lists marks taken lists (permuted_lists _ _ m t lists p q hold)

  pub lists_there : HoldLists marks taken lists → HoldLists m t lists
  lists_there hold = permuted_lists m t _ _ lists (IsPermutation-sym _ _ p) (IsPermutation-sym _ _ q) (lists_shown marks taken lists hold)

-- ---- the rows of one key ID and device

range_row_of : (r : Row) → IsTakenRow r → is_range_row (shown_range r) ≡ true
range_row_of r it = rw (it.is_lo, it.is_size) refl

pub are_range_rows : (marks taken rows : List Row) (lists : Lists) (key : List ℕ) (device : ℕ) → HoldLists marks taken lists → IsPermutation (map shown_range (filter (is_for key device) taken)) rows
    → list_all is_range_row rows ≡ true
are_range_rows marks taken rows lists key device hold read =
    let own = all_from IsTakenRow (filter (is_for key device) taken) (λ r there. all_has IsTakenRow taken r hold.of_taken (has_filtered (is_for key device) taken r there).0) in
    let shown = all_shows_as (filter (is_for key device) taken) own in
    test_from is_range_row rows (λ r there. all_has (λ x. is_range_row x ≡ true) _ r shown (permuted_has rows _ r (IsPermutation-sym _ _ read) there))
  where
    all_shows_as : (rows : List Row) → AllByRecursion IsTakenRow rows → AllByRecursion (λ x. is_range_row x ≡ true) (map shown_range rows)
    all_shows_as [] h = tt
    all_shows_as (r ∷ rows) h = (range_row_of r h.0, all_shows_as rows h.1)

-- ---- rowids

abbrev ties : Row → Row → Bool
ties a b = is_eq (value_cmp (column a 0) (column b 0))

ties_flip : (a b : Row) → ties a b ≡ ties b a
ties_flip a b = ap is_eq (value_cmp_total.antisymm (column a 0) (column b 0)) ∙ turned (value_cmp (column b 0) (column a 0))
  where
    turned : (o : Ordering) → is_eq (Rattle.std.specs.Ordering.ordering_reverse o) ≡ is_eq o
    turned Less = refl
    turned Equal = refl
    turned Greater = refl

distinct_of : (rows : List Row) → IsAscending IsBelow rows → IsDistinct ties rows
unfolding IsDistinct
distinct_of [] h = tt
distinct_of (r ∷ rows) h = (all_from _ rows (λ x there. ap is_eq (all_has (IsBelow r) rows x h.0 there)), distinct_of rows h.1)

rowids_of : (marks : List Row) → AllByRecursion IsMarkRow marks → IsDistinct ties (map shown_id marks) → HaveRowids marks
unfolding IsDistinct
rowids_of [] h d = tt
rowids_of (r ∷ marks) h d = (
  all_from _ marks (λ x there same.
      let its = all_has IsMarkRow marks x h.1 there in
      let one : h.0.id ≡ its.id = sym (ap id_in h.0.is_id) ∙ same ∙ ap id_in its.is_id in
      let both : column x 0 ≡ column r 0 = its.is_id ∙ ap Int (sym one) ∙ sym h.0.is_id in
      let tied : ties (shown_id r) (shown_id x) ≡ true = ap (λ v. is_eq (value_cmp (column r 0) v)) both ∙ ap is_eq (tied_itself value_cmp_total (column r 0)) in
      true≢false (sym tied ∙ all_shown_has r x marks d.0 there)),
  rowids_of marks h.1 d.1,
)
  where
    all_shown_has : (r x : Row) (marks : List Row) → AllByRecursion (λ y. ties (shown_id r) y ≡ false) (map shown_id marks) → Has marks x → ties (shown_id r) (shown_id x) ≡ false
    all_shown_has r x marks all there = all_has (λ y. ties (shown_id r) (shown_id y) ≡ false) marks x (unshown marks all) there
      where
        unshown : (marks : List Row) → AllByRecursion (λ y. ties (shown_id r) y ≡ false) (map shown_id marks) → AllByRecursion (λ y. ties (shown_id r) (shown_id y) ≡ false) marks
        unshown [] h = tt
        unshown (m ∷ marks) h = (h.0, unshown marks h.1)

pub rowids_read : (marks ids : List Row) → AllByRecursion IsMarkRow marks → IsPermutation (map shown_id marks) ids → Chain IsBelow ids → HaveRowids marks
rowids_read marks ids h p chain = rowids_of marks h (IsDistinct-IsPermutation ties ties_flip ids (map shown_id marks) (IsPermutation-sym _ _ p) (distinct_of ids (rowids_ascend ids chain)))

-- ---- tables that were just made

pub empty_holds : (db : Database) → IsEmptyLedger db → Holds db no_lists × HaveRowids (db.trees 0)
empty_holds db it = (
  record {
    sound = it.sound;
    tables = it.tables;
    rows = subst (λ t. HoldLists (db.trees 0) t no_lists) (sym it.taken) (subst (λ m. HoldLists m [] no_lists) (sym it.marks) (record {
      of_marks = tt;
      of_taken = tt;
      each = λ key device. record { permutes = Rattle.std.proofs.lemmas.List.Sorted.IsPermutation-refl []; adjacent = tt; next = refl };
    }));
  },
  subst HaveRowids (sym it.marks) tt,
)
