-- Which key ID and device a row is of.
use Rattle.std.proofs.Common.{◌≡◌, ℕ, pos, negsuc, List, [], ◌∷◌, filter, Bool, true, false, ◌&&◌, bytes_eq, ◌==◌, refl, sym, subst, ◌∙◌, arith}
use Rattle.std.specs.List.{AllByRecursion}
use Rattle.std.specs.Ordering.{int_eq}
use Rattle.std.proofs.lemmas.Bool.{and_parts, true≢false, false_from_ne_true}
use Rattle.std.proofs.lemmas.Bool.Decides.{nat_tests}
use Rattle.std.proofs.lemmas.Map.Text.{is_eq-slice_cmp}
use Rattle.sqlite.specs.declared.types.Value.{Value}
use Rattle.sqlite.specs.declared.types.Value.TheVariants.{Null, Int, Real, Text, Blob}
use Rattle.sqlite.specs.Collation.TheVariants.{Binary}
use Rattle.sqlite.specs.Order.{Row, column}
use Rattle.sqlite.specs.Ops.{unary, binary, is_true}
use Rattle.sqlite_sql.specs.declared.ops.BinaryOp.TheVariants.{Compare}
use Rattle.sqlite_sql.specs.declared.ops.CompareOp.TheVariants.{Eq}
use Rattle.sqlite_typed.proofs.TestLemmas.{at_blobs, at_ints, same_bytes, bytes_eq_refl}
use Rattle.ranges_core.specs.Reads.{is_blob, is_number, is_for}
use Rattle.ranges_core.specs.Reservations.{IsMarkRow, IsTakenRow}
use Rattle.ranges_core.proofs.Asks.{picks}
use Rattle.ranges_core.proofs.Texts.{of_owner}

eq_blobs : (a b : List ℕ) → is_true (binary (Compare Eq Binary) (Blob a) (Blob b)) ≡ bytes_eq a b
eq_blobs a b = at_blobs false Eq a b ∙ is_eq-slice_cmp a b

eq_numbers : (m n : ℕ) → is_true (binary (Compare Eq Binary) (Int (pos m)) (Int (pos n))) ≡ (m == n)
eq_numbers m n = at_ints false Eq (pos m) (pos n) ∙ same m n
  where
    same : (m n : ℕ) → int_eq (pos m) (pos n) ≡ (m == n)
    same m n = grind (arith, nat_tests)

and_true : (a b : Bool) → (a && (b && true)) ≡ (a && b)
and_true true true = refl
and_true true false = refl
and_true false b = refl

-- WHERE selects the rows of the key ID and device
picks_at : (k key : List ℕ) (d device : ℕ) (rest row : Row) → column row 1 ≡ Blob k → column row 2 ≡ Int (pos d)
    → picks of_owner (Blob key ∷ Int (pos device) ∷ rest) row ≡ is_for key device row
unfolding unary
picks_at k key d device rest row is_key is_device = rw (is_key, is_device, eq_blobs k key, eq_numbers d device) (and_true _ _)

pub picks_marks : (key : List ℕ) (device : ℕ) (rest row : Row) → IsMarkRow row → picks of_owner (Blob key ∷ Int (pos device) ∷ rest) row ≡ is_for key device row
picks_marks key device rest row it = picks_at it.key key it.device device rest row it.is_key it.is_device

pub picks_taken : (key : List ℕ) (device : ℕ) (rest row : Row) → IsTakenRow row → picks of_owner (Blob key ∷ Int (pos device) ∷ rest) row ≡ is_for key device row
picks_taken key device rest row it = picks_at it.key key it.device device rest row it.is_key it.is_device

pub filter_same : (p q : Row → Bool) (xs : List Row) → AllByRecursion (λ x. p x ≡ q x) xs → filter p xs ≡ filter q xs
filter_same p q [] h = refl
filter_same p q (x ∷ xs) h = rw (h.0, filter_same p q xs h.1)

pub number_is : (m n : ℕ) → (m == n) ≡ true → m ≡ n
number_is m n h = grind (arith, nat_tests)

number_refl : (n : ℕ) → (n == n) ≡ true
number_refl n = grind (arith, nat_tests)

pub bytes_are : (a b : List ℕ) → bytes_eq a b ≡ true → a ≡ b
bytes_are a b h = same_bytes a b (is_eq-slice_cmp a b ∙ h)

pub same_owner : (k key : List ℕ) (d device : ℕ) → (bytes_eq k key && (d == device)) ≡ true → (k ≡ key) × (d ≡ device)
same_owner k key d device h = let both = and_parts _ _ h in (bytes_are k key both.0, number_is d device both.1)

pub own_owner : (key : List ℕ) (device : ℕ) → (bytes_eq key key && (device == device)) ≡ true
own_owner key device = rw (sym (is_eq-slice_cmp key key) ∙ bytes_eq_refl key, number_refl device)

same_blob : (k key : List ℕ) (v : Value) → is_blob k v ≡ true → is_blob key v ≡ true → k ≡ key
same_blob k key Null p q = absurd (true≢false (sym p))
same_blob k key (Int n) p q = absurd (true≢false (sym p))
same_blob k key (Real x) p q = absurd (true≢false (sym p))
same_blob k key (Text t) p q = absurd (true≢false (sym p))
same_blob k key (Blob b) p q = sym (bytes_are b k p) ∙ bytes_are b key q

same_number : (d device : ℕ) (v : Value) → is_number d v ≡ true → is_number device v ≡ true → d ≡ device
same_number d device Null p q = absurd (true≢false (sym p))
same_number d device (Int (pos m)) p q = sym (number_is m d p) ∙ number_is m device q
same_number d device (Int (negsuc m)) p q = absurd (true≢false (sym p))
same_number d device (Real x) p q = absurd (true≢false (sym p))
same_number d device (Text t) p q = absurd (true≢false (sym p))
same_number d device (Blob b) p q = absurd (true≢false (sym p))

-- a row of one key ID and device is not of any other
pub apart_rows : (k key : List ℕ) (d device : ℕ) → (bytes_eq k key && (d == device)) ≡ false → (r : Row) → is_for key device r ≡ true → is_for k d r ≡ false
apart_rows k key d device apart r q = false_from_ne_true _ (λ p.
    let a = and_parts _ _ p in let b = and_parts _ _ q in
    let same_key = same_blob k key (column r 1) a.0 b.0 in
    let same_device = same_number d device (column r 2) a.1 b.1 in
    true≢false (sym (subst (λ x. (bytes_eq x key && (d == device)) ≡ true) (sym same_key) (subst (λ y. (bytes_eq key key && (y == device)) ≡ true) (sym same_device) (own_owner key device))) ∙ apart))
