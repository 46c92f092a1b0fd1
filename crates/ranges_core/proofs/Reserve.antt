-- A reservation appends its range to its list, and changes no other list.
--
-- Both writes insert a row with a new rowid, so the new rows are the old ones and one more, in some order. If the mark
-- is moved, its old row is removed first. No other row has its rowid, so the rows of other key IDs and devices stay.
use Rattle.std.proofs.Common.{◌≡◌, ◌≢◌, inl, inr, ℕ, ◌+◌, ◌≤◌, ℤ, List, [], ◌∷◌, ◌++◌, map, filter, Bool, true, false, cond, not, ◌&&◌, bytes_eq, ◌==◌, refl, sym, ap, subst, ◌∙◌, IsPermutation, Ordering, Less, Equal, Greater, arith}
use Rattle.std.specs.List.{AllByRecursion}
use Rattle.std.specs.Ordering.{is_eq, match_ordering}
use Rattle.std.proofs.lemmas.Bool.{or_parts, and_parts, not-true, true≢false, false_from_ne_true}
use Rattle.std.proofs.lemmas.Cmp.{tied_itself}
use Rattle.std.proofs.lemmas.List.Sorted.{IsPermutation-refl, IsPermutation-trans, IsPermutation-sym, IsPermutation-map, IsPermutation-append_left, IsPermutation-append_right, IsPermutation-append_comm, IsPermutation-to_front}
use Rattle.sqlite.specs.declared.types.Value.TheVariants.{Int}
use Rattle.sqlite.specs.Order.{Row}
use Rattle.sqlite.specs.Effect.{Database}
use Rattle.sqlite.specs.Edit.{is_taken, are_fresh, id_in, next_rowid}
use Rattle.sqlite.specs.Tree.{IsAscending, rowid, put_row, has_rowid, without_rowid}
use Rattle.sqlite_value.specs.Order.{value_cmp}
use Rattle.sqlite_value.proofs.OrderLemmas.{value_cmp_total, value_cmp-Int}
use Rattle.sqlite_trees.proofs.TreeLemmas.{all-put_row}
use Rattle.sqlite_rules.specs.Lists.{Has}
use Rattle.sqlite_rules.proofs.ListLemmas.{all_has, all_from, has_filtered, has_kept, some_from}
use Rattle.sqlite_keyed.proofs.ListLemmas.{IsPermutation-filter, ascending-filter}
use Rattle.sqlite_keyed.proofs.KeyedLemmas.{same_int}
use Rattle.sqlite.proofs.Callers.{one_permutation}
use Rattle.ranges_core.specs.Reads.{is_for}
use Rattle.ranges_core.specs.Writes.{Puts, Marked, Appends, HaveRowids}
use Rattle.ranges_core.specs.Reservations.{TakenRange, taken_range, Adjacent, end_from, next_of, Lists, with_range, mark_row, taken_row, IsOwner, IsMarkRow, IsTakenRow, range_in, IsNext, IsList, Holds}
use Rattle.ranges_core.proofs.Owners.{own_owner, same_owner, apart_rows}

-- ---- inserting a row

-- a row with a free rowid is inserted among the others
put_permutes : (new : Row) (rows : List Row) → is_taken rows new ≡ false → IsPermutation (new ∷ rows) (put_row new rows)
put_permutes new [] free = IsPermutation-refl (new ∷ [])
put_permutes new (r ∷ rows) free = go (value_cmp (rowid r) (rowid new)) (or_parts _ _ free).0 (put_permutes new rows (or_parts _ _ free).1)
  where
    go : (o : Ordering) → is_eq o ≡ false → IsPermutation (new ∷ rows) (put_row new rows) → IsPermutation (new ∷ r ∷ rows) (match_ordering o (r ∷ put_row new rows) (new ∷ rows) (new ∷ r ∷ rows))
    go Less apart later = IsPermutation-trans _ _ _ (IsPermutation-append_left rows _ _ (IsPermutation-append_comm (new ∷ []) (r ∷ []))) (IsPermutation-append_right (r ∷ []) _ _ later)
    go Equal apart later = absurd (true≢false apart)
    go Greater apart later = IsPermutation-refl _

free_of : (rows : List Row) (new : Row) → are_fresh rows (new ∷ []) ≡ true → is_taken rows new ≡ false
free_of rows new h = not-true _ (and_parts _ _ h).0

put_for : (p : Row → Bool) (new : Row) (rows : List Row) → is_taken rows new ≡ false → IsPermutation (cond (p new) (new ∷ filter p rows) (filter p rows)) (filter p (put_row new rows))
put_for p new rows free = IsPermutation-filter p (new ∷ rows) (put_row new rows) (put_permutes new rows free)

put_own : (p : Row → Bool) (new : Row) (rows : List Row) → is_taken rows new ≡ false → p new ≡ true → IsPermutation (new ∷ filter p rows) (filter p (put_row new rows))
put_own p new rows free is = subst (λ b. IsPermutation (cond b (new ∷ filter p rows) (filter p rows)) (filter p (put_row new rows))) is (put_for p new rows free)

put_other : (p : Row → Bool) (new : Row) (rows : List Row) → is_taken rows new ≡ false → p new ≡ false → IsPermutation (filter p rows) (filter p (put_row new rows))
put_other p new rows free is = subst (λ b. IsPermutation (cond b (new ∷ filter p rows) (filter p rows)) (filter p (put_row new rows))) is (put_for p new rows free)

-- ---- rowids

abbrev Apart : Row → Row → Type 0
Apart a b = id_in (rowid a) ≢ id_in (rowid b)

distinct_put : (new : Row) (rows : List Row) → AllByRecursion (Apart new) rows → IsAscending Apart rows → IsAscending Apart (put_row new rows)
distinct_put new [] free up = (tt, tt)
distinct_put new (r ∷ rows) free up = go (value_cmp (rowid r) (rowid new)) (distinct_put new rows free.1 up.1)
  where
    go : (o : Ordering) → IsAscending Apart (put_row new rows) → IsAscending Apart (match_ordering o (r ∷ put_row new rows) (new ∷ rows) (new ∷ r ∷ rows))
    go Less later = (all-put_row (Apart r) new rows (λ same. free.0 (sym same)) up.0, later)
    go Equal later = (free.1, up.1)
    go Greater later = ((free.0, free.1), (up.0, up.1))

tied_at : (x : Row) (i j : ℤ) → rowid x ≡ Int i → i ≡ j → is_eq (value_cmp (rowid x) (Int j)) ≡ true
tied_at x i j is same = rw (is, same) (ap is_eq (tied_itself value_cmp_total (Int j)))

-- no row has the rowid of the new one
all_apart : (rows : List Row) (new : Row) (id : ℤ) → rowid new ≡ Int id → AllByRecursion IsMarkRow rows → is_taken rows new ≡ false → AllByRecursion (Apart new) rows
all_apart rows new id is lawful free = all_from (Apart new) rows (λ r there same.
    let it = all_has IsMarkRow rows r lawful there in
    let its : rowid r ≡ Int it.id = it.is_id in
    let one : it.id ≡ id = sym (ap id_in its) ∙ sym same ∙ ap id_in is in
    true≢false (sym (some_from (λ z. is_eq (value_cmp (rowid z) (rowid new))) rows r there (subst (λ v. is_eq (value_cmp (rowid r) v) ≡ true) (sym is) (tied_at r it.id id its one))) ∙ free))

-- rows with the same rowid are the same row
one_row : (rows : List Row) (x y : Row) → IsAscending Apart rows → Has rows x → Has rows y → id_in (rowid x) ≡ id_in (rowid y) → x ≡ y
one_row [] x y up h k same = absurd h
one_row (r ∷ rows) x y up (inl p) (inl q) same = p ∙ sym q
one_row (r ∷ rows) x y up (inl p) (inr q) same = absurd (all_has (Apart r) rows y up.0 q (ap (λ z. id_in (rowid z)) (sym p) ∙ same))
one_row (r ∷ rows) x y up (inr p) (inl q) same = absurd (all_has (Apart r) rows x up.0 p (ap (λ z. id_in (rowid z)) (sym q) ∙ sym same))
one_row (r ∷ rows) x y up (inr p) (inr q) same = one_row rows x y up.1 p q same

-- ---- the rows of `mark` that stay

none_kept : (p : Row → Bool) (xs : List Row) → ((x : Row) → Has xs x → p x ≡ false) → filter p xs ≡ []
none_kept p [] h = refl
none_kept p (x ∷ xs) h = rw (h x (inl refl)) (none_kept p xs (λ y k. h y (inr k)))

filter_kept : (p q : Row → Bool) (xs : List Row) → ((x : Row) → Has xs x → p x ≡ true → q x ≡ true) → filter p (filter q xs) ≡ filter p xs
filter_kept p q [] h = refl
filter_kept p q (x ∷ xs) h = go (q x) refl (p x) refl (filter_kept p q xs (λ y k. h y (inr k)))
  where
    go : (b : Bool) → q x ≡ b → (c : Bool) → p x ≡ c → filter p (filter q xs) ≡ filter p xs → filter p (cond b (x ∷ filter q xs) (filter q xs)) ≡ cond c (x ∷ filter p xs) (filter p xs)
    go true kept true is later = rw is (ap (λ l. x ∷ l) later)
    go true kept false is later = rw is later
    go false kept true is later = absurd (true≢false (sym (h x (inl refl) is) ∙ kept))
    go false kept false is later = later

-- no row of the key ID and device is left, and every row of the others is
record Stay (rows left : List Row) (key : List ℕ) (device : ℕ) : Type 0 where
  none : filter (is_for key device) left ≡ []
  others : (p : Row → Bool) → ((r : Row) → p r ≡ true → is_for key device r ≡ false) → filter p left ≡ filter p rows
  lawful : AllByRecursion IsMarkRow left
  rowids : HaveRowids left

id_of : (x : Row) (id : ℤ) → IsMarkRow x → has_rowid id x ≡ true → id_in (rowid x) ≡ id
id_of x id it h =
    let its : rowid x ≡ Int it.id = it.is_id in
    ap id_in its ∙ same_int it.id id (sym (ap is_eq (value_cmp-Int it.id id)) ∙ subst (λ v. is_eq (value_cmp v (Int id)) ≡ true) its h)

stay : (rows : List Row) (key : List ℕ) (device : ℕ) (r : Row) → AllByRecursion IsMarkRow rows → HaveRowids rows → filter (is_for key device) rows ≡ r ∷ []
    → Stay rows (without_rowid (id_in (rowid r)) rows) key device
stay rows key device r lawful up one =
    let id = id_in (rowid r) in
    let found = has_filtered (is_for key device) rows r (subst (λ l. Has l r) (sym one) (inl refl)) in
    let it = all_has IsMarkRow rows r lawful found.0 in
    let its : rowid r ≡ Int it.id = it.is_id in
    let its_id : id ≡ it.id = ap id_in its in
    let keeps : Row → Bool = λ x. not (has_rowid id x) in
    record {
      none = none_kept (is_for key device) (without_rowid id rows) (λ x there. false_from_ne_true _ (λ own.
          let k = has_filtered keeps rows x there in
          let same : x ≡ r = only (is_for key device) rows x r one k.0 own in
          true≢false (sym (tied_at r it.id id its (sym its_id)) ∙ subst (λ z. has_rowid id z ≡ false) same (not-true _ k.1))));
      others = λ p apart. filter_kept p keeps rows (λ x there is. ap not (false_from_ne_true _ (λ tied.
          let same = one_row rows x r up there found.0 (id_of x id (all_has IsMarkRow rows x lawful there) tied) in
          true≢false (sym found.1 ∙ apart r (subst (λ z. p z ≡ true) same is)))));
      lawful = all_from IsMarkRow (without_rowid id rows) (λ x there. all_has IsMarkRow rows x lawful (has_filtered keeps rows x there).0);
      rowids = ascending-filter Apart keeps rows up;
    }
  where
    only : (p : Row → Bool) (xs : List Row) (x r : Row) → filter p xs ≡ r ∷ [] → Has xs x → p x ≡ true → x ≡ r
    only p xs x r one there is = elim (subst (λ l. Has l x) one (has_kept p xs x there is)) [ inl same ↦ same | inr none ↦ absurd none ]

-- ---- the rows of `mark` after the write

record MovedTo (rows after : List Row) (key : List ℕ) (device next : ℕ) : Type 0 where
  lawful : AllByRecursion IsMarkRow after
  rowids : HaveRowids after
  own : IsNext (filter (is_for key device) after) next
  others : (p : Row → Bool) → ((r : Row) → p r ≡ true → is_for key device r ≡ false) → IsPermutation (filter p rows) (filter p after)

puts : (rows left after : List Row) (key : List ℕ) (device next : ℕ) (id : ℤ) → IsOwner key device → next ≤ 4294967296 → Stay rows left key device → Puts left after (mark_row id key device next)
    → MovedTo rows after key device next
puts rows left after key device next id owner bound stays put =
    let new = mark_row id key device next in
    let free = free_of left new put.fresh in
    let mine : is_for key device new ≡ true = own_owner key device in
    let one : filter (is_for key device) after ≡ new ∷ [] =
    ap (filter (is_for key device)) put.put ∙ one_permutation new _ (subst (λ l. IsPermutation (new ∷ l) (filter (is_for key device) (put_row new left))) stays.none (put_own (is_for key device) new left free mine)) in
    record {
      lawful = subst (AllByRecursion IsMarkRow) (sym put.put) (all-put_row IsMarkRow new left (record { id = id; key = key; device = device; next = next; owner = owner; bound = bound; is_id = refl; is_key = refl; is_device = refl; is_next = refl }) stays.lawful);
      rowids = subst HaveRowids (sym put.put) (distinct_put new left (all_apart left new id refl stays.lawful free) stays.rowids);
      own = subst (λ l. IsNext l next) (sym one) refl;
      others = λ p apart.
          let not_new : p new ≡ false = false_from_ne_true _ (λ is. true≢false (sym mine ∙ apart new is)) in
          subst (λ l. IsPermutation (filter p rows) (filter p l)) (sym put.put) (subst (λ l. IsPermutation l (filter p (put_row new left))) (stays.others p apart) (put_other p new left free not_new));
    }

marks : (db between : Database) (key : List ℕ) (device next : ℕ) (own : List Row) → filter (is_for key device) (db.trees 0) ≡ own → IsOwner key device → next ≤ 4294967296
    → AllByRecursion IsMarkRow (db.trees 0) → HaveRowids (db.trees 0) → Marked db between key device next own
    → MovedTo (db.trees 0) (between.trees 0) key device next × (between.trees 2 ≡ db.trees 2) × (between.schema ≡ db.schema)
marks db between key device next [] is owner bound lawful up it =
    (puts (db.trees 0) (db.trees 0) (between.trees 0) key device next (next_rowid (db.trees 0)) owner bound (record { none = is; others = λ p apart. refl; lawful = lawful; rowids = up }) it.row, it.taken, it.schema)
marks db between key device next (r ∷ []) is owner bound lawful up it =
    (puts (db.trees 0) (without_rowid (id_in (rowid r)) (db.trees 0)) (between.trees 0) key device next (id_in (rowid r)) owner bound (stay (db.trees 0) key device r lawful up is) it.row, it.taken, it.schema)
marks db between key device next (r ∷ s ∷ more) is owner bound lawful up it = absurd it

-- ---- lists of ranges

pub adjacent_then : (from : ℕ) (xs : List TakenRange) (r : TakenRange) → Adjacent from xs → r.lo ≡ end_from from xs → 1 ≤ r.size → Adjacent from (xs ++ r ∷ [])
adjacent_then from [] r h is some = (is, some, tt)
adjacent_then from (x ∷ xs) r h is some = (h.0, h.1, adjacent_then (from + x.size) xs r h.2 (is ∙ ap (λ n. end_from (n + x.size) xs) h.0) some)

pub end_then : (from : ℕ) (xs : List TakenRange) (r : TakenRange) → end_from from (xs ++ r ∷ []) ≡ r.lo + r.size
end_then from [] r = refl
end_then from (x ∷ xs) r = end_then (x.lo + x.size) xs r

pub next_permuted : (xs ys : List Row) (n : ℕ) → IsPermutation xs ys → IsNext xs n → IsNext ys n
next_permuted [] ys n h k = subst (λ l. IsNext l n) (sym (none_permuted ys h)) k
  where
    none_permuted : (ys : List Row) → IsPermutation [] ys → ys ≡ []
    none_permuted [] h = refl
    none_permuted (y ∷ ys) h = absurd (omega (arith, Rattle.std.proofs.lemmas.List.Sorted.length_permutation [] (y ∷ ys) h))
next_permuted (x ∷ []) ys n h k = subst (λ l. IsNext l n) (sym (one_permutation x ys h)) k
next_permuted (x ∷ y ∷ xs) ys n h k = absurd k

-- ---- the law

each_of : (marks taken : List Row) (lists : Lists) (key : List ℕ) (device count : ℕ)
    → IsList marks taken key device (lists key device ++ taken_range (next_of (lists key device)) count ∷ [])
    → ((k : List ℕ) (d : ℕ) → (bytes_eq k key && (d == device)) ≡ false → IsList marks taken k d (lists k d))
    → (k : List ℕ) (d : ℕ) → IsList marks taken k d (with_range lists key device count k d)
each_of marks taken lists key device count own others k d = go (bytes_eq k key && (d == device)) refl
  where
    longer : List ℕ → ℕ → List TakenRange
    longer x y = lists x y ++ taken_range (next_of (lists x y)) count ∷ []

    go : (b : Bool) → (bytes_eq k key && (d == device)) ≡ b → IsList marks taken k d (cond b (lists k d ++ taken_range (next_of (lists k d)) count ∷ []) (lists k d))
    go true same =
        let e = same_owner k key d device same in
        subst (λ x. IsList marks taken x d (longer x d)) (sym e.0) (subst (λ y. IsList marks taken key y (longer key y)) (sym e.1) own)
    go false apart = others k d apart

pub record Reserves (db after : Database) (lists : Lists) (key : List ℕ) (device count : ℕ) : Type 0 where
  pub holds : Holds after (with_range lists key device count)
  pub rowids : HaveRowids (after.trees 0)

pub reserves : (db after : Database) (key : List ℕ) (device lo count : ℕ) (lists : Lists) → IsOwner key device → 1 ≤ count → lo + count ≤ 4294967296 → lo ≡ next_of (lists key device)
    → Holds db lists → HaveRowids (db.trees 0) → Appends db after key device lo count → Reserves db after lists key device count
reserves db after key device lo count lists owner some bound at hold up it =
    let moved = marks db it.between key device (lo + count) _ refl owner bound hold.rows.of_marks up it.marked in
    let taken = db.trees 2 in
    let new = taken_row (next_rowid taken) key device lo count in
    let put : Puts taken (after.trees 2) new =
    subst (λ rows. Puts rows (after.trees 2) (taken_row (next_rowid rows) key device lo count)) moved.1 it.took.row in
    let free = free_of taken new put.fresh in
    let marks_are : after.trees 0 ≡ it.between.trees 0 = it.took.marks in
    let mine : is_for key device new ≡ true = own_owner key device in
    let ranges = lists key device in
    let range = taken_range lo count in
    let list = hold.rows.each key device in
    let mapped = IsPermutation-map range_in _ _ (put_own (is_for key device) new taken free mine) in
    let longer : IsPermutation (range ∷ map range_in (filter (is_for key device) taken)) (ranges ++ range ∷ []) =
    IsPermutation-trans _ _ _ (IsPermutation-append_right (range ∷ []) _ _ list.permutes) (IsPermutation-sym _ _ (IsPermutation-to_front ranges range)) in
    let own : IsList (after.trees 0) (after.trees 2) key device (ranges ++ range ∷ []) = record {
      permutes = subst (λ rows. IsPermutation (map range_in (filter (is_for key device) rows)) (ranges ++ range ∷ [])) (sym put.put) (IsPermutation-trans _ _ _ (IsPermutation-sym _ _ mapped) longer);
      adjacent = adjacent_then 0 ranges range list.adjacent at some;
      next = subst (λ rows. IsNext (filter (is_for key device) rows) (next_of (ranges ++ range ∷ []))) (sym marks_are)
          (subst (λ n. IsNext (filter (is_for key device) (it.between.trees 0)) n) (sym (end_then 0 ranges range)) moved.0.own);
    } in
    let others : (k : List ℕ) (d : ℕ) → (bytes_eq k key && (d == device)) ≡ false → IsList (after.trees 0) (after.trees 2) k d (lists k d) = λ k d apart.
    let theirs = apart_rows k key d device apart in
    let away : (r : Row) → is_for k d r ≡ true → is_for key device r ≡ false = λ r is. false_from_ne_true _ (λ mine. true≢false (sym is ∙ theirs r mine)) in
    let its = hold.rows.each k d in
    let same_taken = IsPermutation-map range_in _ _ (put_other (is_for k d) new taken free (theirs new mine)) in
    record {
      permutes = subst (λ rows. IsPermutation (map range_in (filter (is_for k d) rows)) (lists k d)) (sym put.put) (IsPermutation-trans _ _ _ (IsPermutation-sym _ _ same_taken) its.permutes);
      adjacent = its.adjacent;
      next = subst (λ rows. IsNext (filter (is_for k d) rows) (next_of (lists k d))) (sym marks_are) (next_permuted _ _ _ (moved.0.others (is_for k d) away) its.next);
    } in
    record {
      holds = record {
        sound = it.took.sound;
        tables = (hold.tables.0, hold.tables.1, it.took.schema ∙ moved.2 ∙ hold.tables.2);
        rows = record {
          of_marks = subst (AllByRecursion IsMarkRow) (sym marks_are) moved.0.lawful;
          of_taken = subst (AllByRecursion IsTakenRow) (sym put.put) (all-put_row IsTakenRow new taken (record { key = key; device = device; lo = lo; size = count; owner = owner; is_key = refl; is_device = refl; is_lo = refl; is_size = refl }) hold.rows.of_taken);
          each = each_of (after.trees 0) (after.trees 2) lists key device count
              (subst (λ n. IsList (after.trees 0) (after.trees 2) key device (ranges ++ taken_range n count ∷ [])) at own) others;
        };
      };
      rowids = subst HaveRowids (sym marks_are) moved.0.rowids;
    }
