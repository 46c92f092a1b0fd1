-- Sums over all hands, and how often a number occurs in a list.
use Rattle.std.proofs.Common.{◌≡◌, ℕ, zero, suc, ◌+◌, ◌≤◌, cond, nat_eq, List, [], ◌∷◌, ◌++◌, set, refl, sym, ap, ◌∙◌, arith}
use mathlib.Core.Option.{some, some-injective, some-ne-none}
use lib.ListN.{get_elem?}
use Rattle.sealing_core.specs.declared.line.Hand.{Hand}
use Rattle.sealing_core.specs.Hands.{times, total, all_numbers}

pub total_set : (f : Hand → ℕ) (views : List Hand) (i : ℕ) (v w : Hand) → get_elem? views i ≡ some v → total f (set views i w) + f v ≡ total f views + f w
total_set f [] i v w e = absurd (some-ne-none v (sym e))
total_set f (x ∷ xs) zero v w e = let is = ap f (some-injective x v e) in omega arith
total_set f (x ∷ xs) (suc i) v w e = let is = total_set f xs i v w e in omega arith

pub total_snoc : (f : Hand → ℕ) (views : List Hand) (w : Hand) → total f (views ++ w ∷ []) ≡ total f views + f w
total_snoc f [] w = omega arith
total_snoc f (x ∷ xs) w = let is = total_snoc f xs w in omega arith

pub total_at : (f : Hand → ℕ) (views : List Hand) (i : ℕ) (v : Hand) → get_elem? views i ≡ some v → f v ≤ total f views
total_at f [] i v e = absurd (some-ne-none v (sym e))
total_at f (x ∷ xs) zero v e = let is = ap f (some-injective x v e) in omega arith
total_at f (x ∷ xs) (suc i) v e = let is = total_at f xs i v e in omega arith

-- f is 0 for each hand without parts
pub none_idle : (f : Hand → ℕ) (views : List Hand) → ((i : ℕ) (v : Hand) → get_elem? views i ≡ some v → v.parts ≡ 0 → f v ≡ 0) → total (λ v. v.parts) views ≡ 0 → total f views ≡ 0
none_idle f [] idle none = refl
none_idle f (x ∷ xs) idle none =
    let here = idle 0 x refl (omega arith) in
    let there = none_idle f xs (λ i v e. idle (suc i) v e) (omega arith) in
    omega arith

-- one hand has all the parts: the sum is its own
pub all_mine : (f : Hand → ℕ) (views : List Hand) (i : ℕ) (v : Hand) → ((j : ℕ) (u : Hand) → get_elem? views j ≡ some u → u.parts ≡ 0 → f u ≡ 0) → get_elem? views i ≡ some v → total (λ u. u.parts) views ≡ v.parts
    → total f views ≡ f v
all_mine f [] i v idle e all = absurd (some-ne-none v (sym e))
all_mine f (x ∷ xs) zero v idle e all =
    let is = some-injective x v e in
    let w = ap (λ (u : Hand). u.parts) is in
    let g = ap f is in
    let rest = none_idle f xs (λ j u at. idle (suc j) u at) (omega arith) in
    omega arith
all_mine f (x ∷ xs) (suc i) v idle e all =
    let there = total_at (λ u. u.parts) xs i v e in
    let here = idle 0 x refl (omega arith) in
    let rest = all_mine f xs i v (λ j u at. idle (suc j) u at) e (omega arith) in
    omega arith

pub times_push : (x : ℕ) (xs : List ℕ) (n : ℕ) → times x (xs ++ n ∷ []) ≡ times x xs + cond (nat_eq n x) 1 0
times_push x [] n = omega arith
times_push x (y ∷ ys) n = let is = times_push x ys n in omega arith

pub times_append : (x : ℕ) (xs ys : List ℕ) → times x (xs ++ ys) ≡ times x xs + times x ys
times_append x [] ys = omega arith
times_append x (y ∷ xs) ys = let is = times_append x xs ys in omega arith

pub times_all : {T : Type 0} (f : T → List ℕ) (y : ℕ) (xs : List T) (x : T) → times y (all_numbers f (xs ++ x ∷ [])) ≡ times y (all_numbers f xs) + times y (f x)
times_all f y [] x = times_append y (f x) [] ∙ omega arith
times_all f y (z ∷ xs) x =
    let is = times_all f y xs x in
    let a = times_append y (f z) (all_numbers f (xs ++ x ∷ [])) in
    let b = times_append y (f z) (all_numbers f xs) in
    omega arith
