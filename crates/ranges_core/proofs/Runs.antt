-- Runs of adjacent ranges are lists: the rows of `taken` for a key ID and device are one run, since at most one row of
-- `mark` is of them.
use Rattle.std.proofs.Common.{◌≡◌, inl, inr, ◌<◌, ◌≤◌, ◌+◌, ℕ, ℤ, pos, negsuc, List, [], ◌∷◌, ◌++◌, map, filter, length, Bool, true, false, cond, Some, None, is_some, refl, sym, ap, subst, ◌∙◌, IsPermutation, arith}
use Rattle.std.specs.List.{AllByRecursion, list_all}
use Rattle.std.specs.Ordering.{on}
use Rattle.std.specs.Cmp.{IsTotalOrder}
use Rattle.std.proofs.lemmas.Bool.{and_parts, true≢false, false_from_ne_true}
use Rattle.std.proofs.lemmas.Bool.Decides.{nat_tests}
use Rattle.std.proofs.lemmas.Cmp.{on_total, then_total, tied_itself}
use Rattle.std.proofs.lemmas.List.Sorted.{IsPermutation-refl, IsPermutation-sym, IsPermutation-trans, IsPermutation-map, Contains-permutation}
use Rattle.sqlite.specs.declared.types.Value.{Value}
use Rattle.sqlite.specs.declared.types.Value.TheVariants.{Null, Int, Real, Text, Blob}
use Rattle.sqlite.specs.Order.{Row, column}
use Rattle.sqlite.specs.Tree.{IsAscending}
use Rattle.sqlite_value.specs.Order.{value_cmp}
use Rattle.sqlite_value.proofs.OrderLemmas.{value_cmp_total}
use Rattle.sqlite_rules.specs.Lists.{Has}
use Rattle.sqlite_rules.proofs.ListLemmas.{all_has, all_from, has_filtered, test_has, test_from, has_contained, contains_had}
use Rattle.ranges_core.specs.Reads.{is_key, is_within, is_rowid, is_mark_row, is_taken_row, as_number, is_blob, is_number, is_for, shown_range}
use Rattle.ranges_core.specs.Reservations.{TakenRange, Adjacent, end_from, next_of, range_in, next_in, IsOwner, IsMarkRow, IsTakenRow, IsNext, IsList, HoldLists, Lists, AreApart, taken_range, answered_range, ranges_of_pairs}
use Rattle.ranges_core.specs.Runs.{Chain, owner_cmp, IsBefore, IsBelow, OwnRun, Runs, RisesFrom}
use Rattle.ranges_core.proofs.Owners.{own_owner, bytes_are, number_is}
use Rattle.ranges_core.proofs.Reserve.{adjacent_then, end_then}

-- ---- the tests of a row

key_in : (v : Value) → is_key v ≡ true → (b : List ℕ) × (v ≡ Blob b) × (length b ≡ 32)
key_in Null h = absurd (true≢false (sym h))
key_in (Int n) h = absurd (true≢false (sym h))
key_in (Real x) h = absurd (true≢false (sym h))
key_in (Text t) h = absurd (true≢false (sym h))
key_in (Blob b) h = (b, refl, grind (arith, nat_tests))

within_in : (most : ℕ) (v : Value) → is_within most v ≡ true → (n : ℕ) × (v ≡ Int (pos n)) × (n ≤ most)
within_in most Null h = absurd (true≢false (sym h))
within_in most (Int (pos n)) h = (n, refl, grind (arith, nat_tests))
within_in most (Int (negsuc n)) h = absurd (true≢false (sym h))
within_in most (Real x) h = absurd (true≢false (sym h))
within_in most (Text t) h = absurd (true≢false (sym h))
within_in most (Blob b) h = absurd (true≢false (sym h))

rowid_in : (v : Value) → is_rowid v ≡ true → (n : ℤ) × (v ≡ Int n)
rowid_in Null h = absurd (true≢false (sym h))
rowid_in (Int n) h = (n, refl)
rowid_in (Real x) h = absurd (true≢false (sym h))
rowid_in (Text t) h = absurd (true≢false (sym h))
rowid_in (Blob b) h = absurd (true≢false (sym h))

number_some : (v : Value) → is_some (as_number v) ≡ true → (n : ℕ) × (v ≡ Int (pos n))
number_some Null h = absurd (true≢false (sym h))
number_some (Int (pos n)) h = (n, refl)
number_some (Int (negsuc n)) h = absurd (true≢false (sym h))
number_some (Real x) h = absurd (true≢false (sym h))
number_some (Text t) h = absurd (true≢false (sym h))
number_some (Blob b) h = absurd (true≢false (sym h))

pub mark_row_is : (r : Row) → is_mark_row r ≡ true → IsMarkRow r
mark_row_is r h =
    let a = and_parts _ _ h in
    let b = and_parts _ _ a.1 in
    let o = and_parts _ _ b.0 in
    let id = rowid_in (column r 0) a.0 in
    let key = key_in (column r 1) o.0 in
    let device = within_in 16777215 (column r 2) o.1 in
    let next = within_in 4294967296 (column r 3) b.1 in
    record { id = id.0; key = key.0; device = device.0; next = next.0; owner = record { bytes = key.2; bits = device.2 }; bound = next.2; is_id = id.1; is_key = key.1; is_device = device.1; is_next = next.1 }

pub taken_row_is : (r : Row) → is_taken_row r ≡ true → IsTakenRow r
taken_row_is r h =
    let a = and_parts _ _ h in
    let o = and_parts _ _ a.0 in
    let n = and_parts _ _ a.1 in
    let key = key_in (column r 1) o.0 in
    let device = within_in 16777215 (column r 2) o.1 in
    let lo = number_some (column r 3) n.0 in
    let size = number_some (column r 4) n.1 in
    record { key = key.0; device = device.0; lo = lo.0; size = size.0; owner = record { bytes = key.2; bits = device.2 }; is_key = key.1; is_device = device.1; is_lo = lo.1; is_size = size.1 }

within_is : (most n : ℕ) → n ≤ most → is_within most (Int (pos n)) ≡ true
within_is most n h = grind (arith, nat_tests)

key_is : (b : List ℕ) → length b ≡ 32 → is_key (Blob b) ≡ true
key_is b h = grind (arith, nat_tests)

pub is_mark_row_of : (r : Row) → IsMarkRow r → is_mark_row r ≡ true
is_mark_row_of r it = rw (it.is_id, it.is_key, it.is_device, it.is_next, key_is it.key it.owner.bytes, within_is 16777215 it.device it.owner.bits, within_is 4294967296 it.next it.bound)

pub is_taken_row_of : (r : Row) → IsTakenRow r → is_taken_row r ≡ true
is_taken_row_of r it = rw (it.is_key, it.is_device, it.is_lo, it.is_size, key_is it.key it.owner.bytes, within_is 16777215 it.device it.owner.bits)

-- ---- a chain under a transitive order is ascending

module _ (R : Row → Row → Type 0) (passes : (a b c : Row) → R a b → R b c → R a c) where
  below_all : (a : Row) (b : Row) (rows : List Row) → R a b → Chain R (b ∷ rows) → AllByRecursion (R a) (b ∷ rows)
  below_all a b [] h chain = (h, tt)
  below_all a b (d ∷ rows) h chain = (h, below_all a d rows (passes a b d h chain.0) chain.1)

  ascends : (rows : List Row) → Chain R rows → IsAscending R rows
  ascends [] chain = tt
  ascends (a ∷ []) chain = (tt, tt)
  ascends (a ∷ b ∷ rows) chain = (below_all a b rows chain.0 chain.1, ascends (b ∷ rows) chain.1)

owner_total : IsTotalOrder owner_cmp
owner_total = then_total (on_total (λ (r : Row). column r 1) value_cmp_total) (on_total (λ (r : Row). column r 2) value_cmp_total)

pub owners_ascend : (rows : List Row) → Chain IsBefore rows → IsAscending IsBefore rows
owners_ascend rows chain = ascends IsBefore owner_total.trans rows chain

rowids_total : IsTotalOrder (on (λ (r : Row). column r 0) value_cmp)
rowids_total = on_total (λ (r : Row). column r 0) value_cmp_total

pub rowids_ascend : (rows : List Row) → Chain IsBelow rows → IsAscending IsBelow rows
rowids_ascend rows chain = ascends IsBelow rowids_total.trans rows chain

-- ---- rows of one key ID and device

blob_is : (key : List ℕ) (v : Value) → is_blob key v ≡ true → v ≡ Blob key
blob_is key Null h = absurd (true≢false (sym h))
blob_is key (Int n) h = absurd (true≢false (sym h))
blob_is key (Real x) h = absurd (true≢false (sym h))
blob_is key (Text t) h = absurd (true≢false (sym h))
blob_is key (Blob b) h = ap Blob (bytes_are b key h)

number_value : (n : ℕ) (v : Value) → is_number n v ≡ true → v ≡ Int (pos n)
number_value n Null h = absurd (true≢false (sym h))
number_value n (Int (pos m)) h = ap (λ x. Int (pos x)) (number_is m n h)
number_value n (Int (negsuc m)) h = absurd (true≢false (sym h))
number_value n (Real x) h = absurd (true≢false (sym h))
number_value n (Text t) h = absurd (true≢false (sym h))
number_value n (Blob b) h = absurd (true≢false (sym h))

-- of two rows with one key ID and device, neither is before the other
not_before : (key : List ℕ) (device : ℕ) (a b : Row) → is_for key device a ≡ true → is_for key device b ≡ true → IsBefore a b → ⊥
not_before key device a b p q before =
    let x = and_parts _ _ p in let y = and_parts _ _ q in
    let same : owner_cmp a b ≡ owner_cmp a a = rw (blob_is key (column a 1) x.0, blob_is key (column b 1) y.0, number_value device (column a 2) x.1, number_value device (column b 2) y.1) in
    let tie = tied_itself owner_total a in
    absurd cc

-- ---- each list is one run

filter_all : (p : Row → Bool) (xs : List Row) → AllByRecursion (λ x. p x ≡ true) xs → filter p xs ≡ xs
filter_all p [] h = refl
filter_all p (x ∷ xs) h = rw h.0 (ap (λ l. x ∷ l) (filter_all p xs h.1))

filter_none : (p : Row → Bool) (xs : List Row) → AllByRecursion (λ x. p x ≡ false) xs → filter p xs ≡ []
filter_none p [] h = refl
filter_none p (x ∷ xs) h = rw h.0 (filter_none p xs h.1)

filter_append : (p : Row → Bool) (xs ys : List Row) → filter p (xs ++ ys) ≡ filter p xs ++ filter p ys
filter_append p [] ys = refl
filter_append p (x ∷ xs) ys = elim (p x) as (λ b. cond b (x ∷ filter p (xs ++ ys)) (filter p (xs ++ ys)) ≡ cond b (x ∷ filter p xs) (filter p xs) ++ filter p ys)
    [ true ↦ ap (λ l. x ∷ l) (filter_append p xs ys) | false ↦ filter_append p xs ys ]

append_none : {X : Type 0} (xs : List X) → xs ++ [] ≡ xs
append_none [] = refl
append_none (x ∷ xs) = ap (λ l. x ∷ l) (append_none xs)

-- if two rows have the same key ID and device, and one of them is of a key ID and device, so is the other
same_for : (key k : List ℕ) (device d : ℕ) (m t : Row) → column m 1 ≡ Blob k → column m 2 ≡ Int (pos d) → is_for k d t ≡ true → is_for key device t ≡ true → is_for key device m ≡ true
same_for key k device d m t is_k is_d mine his =
    let x = and_parts _ _ mine in let y = and_parts _ _ his in
    let first : column m 1 ≡ Blob key = is_k ∙ sym (blob_is k (column t 1) x.0) ∙ blob_is key (column t 1) y.0 in
    let second : column m 2 ≡ Int (pos device) = is_d ∙ sym (number_value d (column t 2) x.1) ∙ number_value device (column t 2) y.1 in
    rw (first, second) (own_owner key device)

same_back : (key k : List ℕ) (device d : ℕ) (m t : Row) → column m 1 ≡ Blob k → column m 2 ≡ Int (pos d) → is_for k d t ≡ true → is_for key device m ≡ true → is_for key device t ≡ true
same_back key k device d m t is_k is_d mine his =
    let x = and_parts _ _ mine in let y = and_parts _ _ his in
    let first : column t 1 ≡ Blob key = blob_is k (column t 1) x.0 ∙ sym is_k ∙ blob_is key (column m 1) y.0 in
    let second : column t 2 ≡ Int (pos device) = number_value d (column t 2) x.1 ∙ sym is_d ∙ number_value device (column m 2) y.1 in
    rw (first, second) (own_owner key device)

run_apart : (key : List ℕ) (device : ℕ) (m : Row) (run : List Row) → OwnRun m run → is_for key device m ≡ false → filter (is_for key device) run ≡ []
run_apart key device m run own apart = filter_none (is_for key device) run (all_from _ run (λ t there. false_from_ne_true _ (λ his.
    true≢false (sym (same_for key own.key device own.device m t own.is_key own.is_device (all_has _ run t own.own there) his) ∙ apart))))

run_own : (key : List ℕ) (device : ℕ) (m : Row) (run : List Row) → OwnRun m run → is_for key device m ≡ true → filter (is_for key device) run ≡ run
run_own key device m run own mine = filter_all (is_for key device) run (all_from _ run (λ t there.
    same_back key own.key device own.device m t own.is_key own.is_device (all_has _ run t own.own there) mine))

no_runs : (key : List ℕ) (device : ℕ) (ms ts : List Row) → Runs ms ts → AllByRecursion (λ m. is_for key device m ≡ false) ms → filter (is_for key device) ts ≡ []
no_runs key device [] ts h none = ap (filter (is_for key device)) h
no_runs key device (m ∷ ms) ts h none =
    ap (filter (is_for key device)) h.2 ∙ filter_append (is_for key device) h.0 h.1
    ∙ ap (λ l. l ++ filter (is_for key device) h.1) (run_apart key device m h.0 h.3 none.0) ∙ no_runs key device ms h.1 h.4 none.1

record OneList (ms ts : List Row) (key : List ℕ) (device : ℕ) : Type 0 where
  adjacent : Adjacent 0 (map range_in (filter (is_for key device) ts))
  next : IsNext (filter (is_for key device) ms) (next_of (map range_in (filter (is_for key device) ts)))

runs_list : (key : List ℕ) (device : ℕ) (ms ts : List Row) → IsAscending IsBefore ms → Runs ms ts → OneList ms ts key device
runs_list key device [] ts up h = subst (λ l. OneList [] l key device) (sym h) (record { adjacent = tt; next = refl })
runs_list key device (m ∷ ms) ts up h = go (is_for key device m) refl (runs_list key device ms h.1 up.1 h.4)
  where
    mine : List Row → List Row
    mine = filter (is_for key device)

    split : filter (is_for key device) ts ≡ mine h.0 ++ mine h.1
    split = ap (filter (is_for key device)) h.2 ∙ filter_append (is_for key device) h.0 h.1

    go : (b : Bool) → is_for key device m ≡ b → OneList ms h.1 key device → OneList (m ∷ ms) ts key device
    go true is it =
        let later : AllByRecursion (λ x. is_for key device x ≡ false) ms = all_from _ ms (λ x there. false_from_ne_true _ (λ his. not_before key device m x is his (all_has (IsBefore m) ms x up.0 there))) in
        let rest = no_runs key device ms h.1 h.4 later in
        let run : mine ts ≡ h.0 = split ∙ ap (λ l. l ++ mine h.1) (run_own key device m h.0 h.3 is) ∙ ap (λ l. h.0 ++ l) rest ∙ append_none h.0 in
        let own : mine (m ∷ ms) ≡ m ∷ [] = rw is (ap (λ l. m ∷ l) (filter_none (is_for key device) ms later)) in
        record {
          adjacent = subst (λ l. Adjacent 0 (map range_in l)) (sym run) h.3.adjacent;
          next = subst (λ l. IsNext l (next_of (map range_in (mine ts)))) (sym own) (subst (λ l. next_in m ≡ next_of (map range_in l)) (sym run) h.3.next);
        }
    go false is it =
        let rest : mine ts ≡ mine h.1 = split ∙ ap (λ l. l ++ mine h.1) (run_apart key device m h.0 h.3 is) in
        let left : mine (m ∷ ms) ≡ mine ms = rw is refl in
        record {
          adjacent = subst (λ l. Adjacent 0 (map range_in l)) (sym rest) it.adjacent;
          next = subst (λ l. IsNext l (next_of (map range_in (mine ts)))) (sym left) (subst (λ l. IsNext (mine ms) (next_of (map range_in l))) (sym rest) it.next);
        }

pub holds_runs : (ms ts : List Row) → list_all is_mark_row ms ≡ true → list_all is_taken_row ts ≡ true → Chain IsBefore ms → Runs ms ts → (lists : Lists) × HoldLists ms ts lists
holds_runs ms ts of_marks of_taken chain runs = (
  λ key device. map range_in (filter (is_for key device) ts),
  record {
    of_marks = all_from IsMarkRow ms (λ r there. mark_row_is r (test_has is_mark_row ms r of_marks there));
    of_taken = all_from IsTakenRow ts (λ r there. taken_row_is r (test_has is_taken_row ts r of_taken there));
    each = λ key device. let it = runs_list key device ms ts (owners_ascend ms chain) runs in
        record { permutes = IsPermutation-refl _; adjacent = it.adjacent; next = it.next };
  },
)

-- ---- rows that hold no lists

abbrev Lower : TakenRange → TakenRange → Type 0
Lower a b = a.lo < b.lo

above : (lo : ℕ) (xs : List TakenRange) → RisesFrom (Some lo) xs → AllByRecursion (λ x. lo < x.lo) xs
above lo [] h = tt
above lo (x ∷ xs) h = (h.0, all_from _ xs (λ y there. let k = all_has (λ z. x.lo < z.lo) xs y (above x.lo xs h.1) there in omega (arith, h.0)))

rises_some : (lo : ℕ) (xs : List TakenRange) → RisesFrom (Some lo) xs → IsAscending Lower xs
rises_some lo [] h = tt
rises_some lo (x ∷ xs) h = (above x.lo xs h.1, rises_some x.lo xs h.1)

rises : (xs : List TakenRange) → RisesFrom None xs → IsAscending Lower xs
rises [] h = tt
rises (x ∷ xs) h = (above x.lo xs h, rises_some x.lo xs h)

from_on : (from : ℕ) (xs : List TakenRange) → Adjacent from xs → AllByRecursion (λ x. from ≤ x.lo) xs
from_on from [] h = tt
from_on from (x ∷ xs) h = (omega (arith, h.0), all_from _ xs (λ y there. let k = all_has (λ z. from + x.size ≤ z.lo) xs y (from_on (from + x.size) xs h.2) there in omega arith))

adjacent_rises : (from : ℕ) (xs : List TakenRange) → Adjacent from xs → IsAscending Lower xs
adjacent_rises from [] h = tt
adjacent_rises from (x ∷ xs) h =
    (all_from _ xs (λ y there. let k = all_has (λ z. from + x.size ≤ z.lo) xs y (from_on (from + x.size) xs h.2) there in omega (arith, h.0, h.1)), adjacent_rises (from + x.size) xs h.2)

-- ascending lists of the same elements are equal
rising_same : (xs ys : List TakenRange) → IsAscending Lower xs → IsAscending Lower ys → ((z : TakenRange) → Has xs z → Has ys z) → ((z : TakenRange) → Has ys z → Has xs z) → xs ≡ ys
rising_same [] [] p q f g = refl
rising_same [] (y ∷ ys) p q f g = absurd (g y (inl refl))
rising_same (x ∷ xs) [] p q f g = absurd (f x (inl refl))
rising_same (x ∷ xs) (y ∷ ys) p q f g =
    let same = heads (f x (inl refl)) (g y (inl refl)) in
    let tails = rising_same xs ys p.1 q.1 (λ z there. other z (f z (inr there)) (all_has (Lower x) xs z p.0 there) same) (λ z there. back z (g z (inr there)) (all_has (Lower y) ys z q.0 there) same) in
    rw (same, tails)
  where
    heads : Has (y ∷ ys) x → Has (x ∷ xs) y → x ≡ y
    heads (inl same) h = same
    heads (inr later) (inl same) = sym same
    heads (inr later) (inr earlier) = let a = all_has (Lower y) ys x q.0 later in let b = all_has (Lower x) xs y p.0 earlier in absurd (omega arith)

    other : (z : TakenRange) → Has (y ∷ ys) z → x.lo < z.lo → x ≡ y → Has ys z
    other z (inl is) low same = let e : z.lo ≡ x.lo = ap (λ (s : TakenRange). s.lo) (is ∙ sym same) in absurd (omega arith)
    other z (inr there) low same = there

    back : (z : TakenRange) → Has (x ∷ xs) z → y.lo < z.lo → x ≡ y → Has xs z
    back z (inl is) low same = let e : z.lo ≡ y.lo = ap (λ (s : TakenRange). s.lo) (is ∙ same) in absurd (omega arith)
    back z (inr there) low same = there

-- if the ranges of a key ID and device ascend, they are its list
pub ranges_are : (ms ts : List Row) (lists : Lists) (key : List ℕ) (device : ℕ) → HoldLists ms ts lists → RisesFrom None (map range_in (filter (is_for key device) ts))
    → map range_in (filter (is_for key device) ts) ≡ lists key device
ranges_are ms ts lists key device hold up =
    let xs = map range_in (filter (is_for key device) ts) in
    let list = hold.each key device in
    let back = IsPermutation-sym _ _ list.permutes in
    rising_same xs (lists key device) (rises xs up) (adjacent_rises 0 (lists key device) list.adjacent)
    (λ z there. has_contained (lists key device) z (Contains-permutation xs (lists key device) z list.permutes (contains_had xs z there)))
    (λ z there. has_contained xs z (Contains-permutation (lists key device) xs z back (contains_had (lists key device) z there)))

next_low : (rows : List Row) (n : ℕ) → AllByRecursion IsMarkRow rows → IsNext rows n → n ≤ 4294967296
next_low [] n h is = omega (arith, is)
next_low (r ∷ []) n h is = let e : next_in r ≡ h.0.next = ap Rattle.ranges_core.specs.Reservations.number_in h.0.is_next in omega (arith, h.0.bound, is)
next_low (r ∷ s ∷ more) n h is = absurd is

pub record Fits (ms ts : List Row) (key : List ℕ) (device : ℕ) : Type 0 where
  pub adjacent : Adjacent 0 (map range_in (filter (is_for key device) ts))
  pub low : next_of (map range_in (filter (is_for key device) ts)) ≤ 4294967296
  pub next : IsNext (filter (is_for key device) ms) (next_of (map range_in (filter (is_for key device) ts)))

pub fits : (ms ts : List Row) (lists : Lists) (key : List ℕ) (device : ℕ) → HoldLists ms ts lists → RisesFrom None (map range_in (filter (is_for key device) ts)) → Fits ms ts key device
fits ms ts lists key device hold up =
    let same = ranges_are ms ts lists key device hold up in
    let list = hold.each key device in
    let own = all_from IsMarkRow (filter (is_for key device) ms) (λ r there. all_has IsMarkRow ms r hold.of_marks (has_filtered (is_for key device) ms r there).0) in
    record {
      adjacent = subst (Adjacent 0) (sym same) list.adjacent;
      low = subst (λ l. next_of l ≤ 4294967296) (sym same) (next_low _ _ own list.next);
      next = subst (λ l. IsNext (filter (is_for key device) ms) (next_of l)) (sym same) list.next;
    }

pub all_marks : (ms ts : List Row) (lists : Lists) → HoldLists ms ts lists → list_all is_mark_row ms ≡ true
all_marks ms ts lists hold = test_from is_mark_row ms (λ r there. is_mark_row_of r (all_has IsMarkRow ms r hold.of_marks there))

pub all_taken : (ms ts : List Row) (lists : Lists) → HoldLists ms ts lists → list_all is_taken_row ts ≡ true
all_taken ms ts lists hold = test_from is_taken_row ts (λ r there. is_taken_row_of r (all_has IsTakenRow ts r hold.of_taken there))

-- ---- one more row

end_from_on : (from : ℕ) (xs : List TakenRange) → Adjacent from xs → from ≤ end_from from xs
end_from_on from [] h = omega arith
end_from_on from (x ∷ xs) h = let k = end_from_on (from + x.size) xs h.2 in let e : end_from (x.lo + x.size) xs ≡ end_from (from + x.size) xs = ap (λ n. end_from (n + x.size) xs) h.0 in omega arith

-- the next row of the key ID and device begins at the end so far
pub record NextRow (row : Row) (end most : ℕ) : Type 0 where
  pub test : is_taken_row row ≡ true
  pub lo : (range_in row).lo ≡ end
  pub some : 1 ≤ (range_in row).size
  pub low : end + (range_in row).size ≤ most

pub next_row : (p : Row → Bool) (rest more : List Row) (row : Row) (end most : ℕ) → rest ≡ row ∷ more → p row ≡ true → list_all is_taken_row rest ≡ true
    → Adjacent end (map range_in (filter p rest)) → end_from end (map range_in (filter p rest)) ≤ most → NextRow row end most
next_row p rest more row end most split is tests adjacent low =
    let own : filter p rest ≡ row ∷ filter p more = ap (filter p) split ∙ rw is refl in
    let a : Adjacent end (range_in row ∷ map range_in (filter p more)) = subst (λ l. Adjacent end (map range_in l)) own adjacent in
    let l : end_from end (range_in row ∷ map range_in (filter p more)) ≤ most = subst (λ l. end_from end (map range_in l) ≤ most) own low in
    let k = end_from_on (end + (range_in row).size) (map range_in (filter p more)) a.2 in
    let e : end_from ((range_in row).lo + (range_in row).size) (map range_in (filter p more)) ≡ end_from (end + (range_in row).size) (map range_in (filter p more)) =
    ap (λ n. end_from (n + (range_in row).size) (map range_in (filter p more))) a.0 in
    record { test = (and_parts _ _ (subst (λ l. list_all is_taken_row l ≡ true) split tests)).0; lo = a.0; some = a.1; low = omega arith }

map_append : {A B : Type 0} (f : A → B) (xs ys : List A) → map f (xs ++ ys) ≡ map f xs ++ map f ys
map_append f [] ys = refl
map_append f (x ∷ xs) ys = ap (λ l. f x ∷ l) (map_append f xs ys)

append_more : {A : Type 0} (xs : List A) (x : A) (ys : List A) → xs ++ x ∷ ys ≡ (xs ++ x ∷ []) ++ ys
append_more [] x ys = refl
append_more (y ∷ xs) x ys = ap (λ l. y ∷ l) (append_more xs x ys)

all_more_own : (p : Row → Bool) (xs : List Row) (x : Row) → AllByRecursion (λ t. p t ≡ true) xs → p x ≡ true → AllByRecursion (λ t. p t ≡ true) (xs ++ x ∷ [])
all_more_own p [] x h is = (is, tt)
all_more_own p (y ∷ xs) x h is = (h.0, all_more_own p xs x h.1 is)

pub run_more : (p : Row → Bool) (all run rest more : List Row) (row : Row) (end e : ℕ) → all ≡ run ++ rest → rest ≡ row ∷ more → AllByRecursion (λ t. p t ≡ true) run → p row ≡ true
    → Adjacent 0 (map range_in run) → end ≡ next_of (map range_in run) → (range_in row).lo ≡ end → 1 ≤ (range_in row).size → e ≡ end + (range_in row).size
    → (longer : List Row) × (all ≡ longer ++ more) × AllByRecursion (λ t. p t ≡ true) longer × Adjacent 0 (map range_in longer) × (e ≡ next_of (map range_in longer))
run_more p all run rest more row end e is split own mine adjacent ends lo some sum =
    let mapped = map_append range_in run (row ∷ []) in (
      run ++ row ∷ [],
      is ∙ ap (λ l. run ++ l) split ∙ append_more run row more,
      all_more_own p run row own mine,
      subst (Adjacent 0) (sym mapped) (adjacent_then 0 (map range_in run) (range_in row) adjacent (lo ∙ ends) some),
      sum ∙ ap (λ n. n + (range_in row).size) (sym lo) ∙ sym (end_then 0 (map range_in run) (range_in row)) ∙ sym (ap next_of mapped),
    )

pub no_items : {A : Type 0} (xs : List A) → length xs ≡ 0 → xs ≡ []
no_items [] h = refl
no_items (x ∷ xs) h = absurd (omega (arith, h))

-- adjacent ranges, in any order, are one list
pub adjacent_same : (xs ys : List TakenRange) → Adjacent 0 xs → Adjacent 0 ys → IsPermutation xs ys → xs ≡ ys
adjacent_same xs ys p q perm =
    let back = IsPermutation-sym _ _ perm in
    rising_same xs ys (adjacent_rises 0 xs p) (adjacent_rises 0 ys q)
    (λ z there. has_contained ys z (Contains-permutation xs ys z perm (contains_had xs z there)))
    (λ z there. has_contained xs z (Contains-permutation ys xs z back (contains_had ys z there)))

ranges_answered : (rows : List Row) → map answered_range (map shown_range rows) ≡ map range_in rows
ranges_answered [] = refl
ranges_answered (r ∷ rows) = ap (λ l. range_in r ∷ l) (ranges_answered rows)

pub ranges_read : (marks taken rows : List Row) (lists : Lists) (key : List ℕ) (device : ℕ) (ranges : List TakenRange) → HoldLists marks taken lists
    → IsPermutation (map shown_range (filter (is_for key device) taken)) rows → ranges ≡ map answered_range rows → Adjacent 0 ranges → ranges ≡ lists key device
ranges_read marks taken rows lists key device ranges hold read is adjacent =
    let list = hold.each key device in
    let shown : IsPermutation (map range_in (filter (is_for key device) taken)) ranges =
    subst (IsPermutation (map range_in (filter (is_for key device) taken))) (sym is)
    (subst (λ l. IsPermutation l (map answered_range rows)) (ranges_answered (filter (is_for key device) taken)) (IsPermutation-map answered_range _ _ read)) in
    adjacent_same ranges (lists key device) adjacent list.adjacent (IsPermutation-trans _ _ _ (IsPermutation-sym _ _ shown) list.permutes)

number_of : (v : Value) (n : ℕ) → as_number v ≡ Some n → Rattle.ranges_core.specs.Reservations.number_in v ≡ n
number_of Null n h = absurd cc
number_of (Int (pos m)) n h = cc
number_of (Int (negsuc m)) n h = absurd cc
number_of (Real x) n h = absurd cc
number_of (Text t) n h = absurd cc
number_of (Blob b) n h = absurd cc

pub range_more : (pairs new : List (ℕ × ℕ)) (rest more : List Row) (row : Row) (end lo size : ℕ) (all : List TakenRange) → new ≡ pairs ++ (lo, size) ∷ [] → rest ≡ row ∷ more
    → as_number (column row 0) ≡ Some lo → as_number (column row 1) ≡ Some size → lo ≡ end → 1 ≤ size
    → ranges_of_pairs pairs ++ map answered_range rest ≡ all → Adjacent 0 (ranges_of_pairs pairs) → end ≡ next_of (ranges_of_pairs pairs)
    → (ranges_of_pairs new ++ map answered_range more ≡ all) × Adjacent 0 (ranges_of_pairs new) × (end + size ≡ next_of (ranges_of_pairs new))
range_more pairs new rest more row end lo size all is split a b at some shown adjacent ends =
    let one : answered_range row ≡ taken_range lo size = rw (number_of (column row 0) lo a, number_of (column row 1) size b) in
    let longer : ranges_of_pairs new ≡ ranges_of_pairs pairs ++ taken_range lo size ∷ [] = ap ranges_of_pairs is ∙ map_append (λ (p : ℕ × ℕ). taken_range p.0 p.1) pairs ((lo, size) ∷ []) in (
      ap (λ l. l ++ map answered_range more) longer ∙ sym (append_more (ranges_of_pairs pairs) (taken_range lo size) (map answered_range more))
          ∙ ap (λ s. ranges_of_pairs pairs ++ s ∷ map answered_range more) (sym one) ∙ ap (λ l. ranges_of_pairs pairs ++ map answered_range l) (sym split) ∙ shown,
      subst (Adjacent 0) (sym longer) (adjacent_then 0 (ranges_of_pairs pairs) (taken_range lo size) adjacent (at ∙ ends) some),
      ap (λ n. n + size) (sym at) ∙ sym (end_then 0 (ranges_of_pairs pairs) (taken_range lo size)) ∙ sym (ap next_of longer),
    )

pub adjacent_apart : (from : ℕ) (xs : List TakenRange) → Adjacent from xs → AreApart xs
adjacent_apart from [] h = tt
adjacent_apart from (x ∷ xs) h =
    (all_from _ xs (λ y there. let k = all_has (λ z. from + x.size ≤ z.lo) xs y (from_on (from + x.size) xs h.2) there in omega (arith, h.0)), adjacent_apart (from + x.size) xs h.2)
