-- In a list of adjacent ranges, each ends before the number at which the next range begins.
use Rattle.std.proofs.Common.{◌≡◌, ℕ, zero, suc, ◌+◌, ◌≤◌, List, [], ◌∷◌, Some, length, take, true, bytes_eq, ◌==◌, sym, ap, ◌∙◌, arith}
use Rattle.std.proofs.lemmas.Bool.Decides.{nat_tests}
use Rattle.std.proofs.lemmas.Map.Text.{is_eq-slice_cmp}
use Rattle.std.specs.Prelude.{slice_get}
use Rattle.sqlite_rules.proofs.ActionLemmas.{got_last}
use Rattle.sqlite_typed.proofs.TestLemmas.{bytes_eq_refl}
use Rattle.ranges_core.specs.Reservations.{TakenRange, Lists, Adjacent, end_from, next_of, taken_range, with_range}

grows : (from : ℕ) (rs : List TakenRange) → Adjacent from rs → from ≤ end_from from rs
grows from [] adjacent = omega arith
grows from (r ∷ more) adjacent =
    let (begins, some, rest) = adjacent in
    let h = grows (from + r.size) more rest in
    let same : end_from (r.lo + r.size) more ≡ end_from (from + r.size) more = ap (λ (m : ℕ). end_from (m + r.size) more) begins in
    omega arith

pub behind : (from : ℕ) (rs : List TakenRange) (j : ℕ) (b : TakenRange) → Adjacent from rs → slice_get rs j ≡ Some b
    → (from ≤ b.lo) × (b.lo + b.size ≤ end_from from rs)
behind from [] j b adjacent at = absurd (cc)
behind from (r ∷ more) zero b adjacent at =
    let (begins, some, rest) = adjacent in
    let h = grows (from + r.size) more rest in
    let same : end_from (r.lo + r.size) more ≡ end_from (from + r.size) more = ap (λ (m : ℕ). end_from (m + r.size) more) begins in
    let lo : r.lo ≡ b.lo = cc in
    let size : r.size ≡ b.size = cc in
    (omega arith, omega arith)
behind from (r ∷ more) (suc j) b adjacent at =
    let (begins, some, rest) = adjacent in
    let (lo, end) = behind (from + r.size) more j b rest at in
    let same : end_from (r.lo + r.size) more ≡ end_from (from + r.size) more = ap (λ (m : ℕ). end_from (m + r.size) more) begins in
    (omega arith, omega arith)

-- an element of a prefix of a list is in the list
pub in_front : (front list : List TakenRange) (i : ℕ) (r : TakenRange) → take (length front) list ≡ front → slice_get front i ≡ Some r
    → slice_get list i ≡ Some r
in_front [] list i r begins at = absurd (cc)
in_front (x ∷ front) [] i r begins at = absurd (cc)
in_front (x ∷ front) (y ∷ list) zero r begins at = let same : y ≡ x = cc in cc
in_front (x ∷ front) (y ∷ list) (suc i) r begins at =
    let rest : take (length front) list ≡ front = cc in
    in_front front list i r rest at

-- an appended range comes after those that were there
pub own_range : (lists : Lists) (key : List ℕ) (device count : ℕ)
    → slice_get (with_range lists key device count key device) (length (lists key device)) ≡ Some (taken_range (next_of (lists key device)) count)
own_range lists key device count =
    let own : bytes_eq key key ≡ true = sym (is_eq-slice_cmp key key) ∙ bytes_eq_refl key in
    let its : (device == device) ≡ true = grind (arith, nat_tests) in
    rw (own, its) (got_last (lists key device) (taken_range (next_of (lists key device)) count))
