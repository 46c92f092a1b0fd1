-- There is one way to cut a list at its first separator.
use Rattle.std.proofs.Common.{◌≡◌, ◌≢◌, ℕ, suc, ◌<◌, List, [], ◌∷◌, ◌++◌, length, get_or, refl, sym, ◌∙◌, subst, All, arith, append_assoc}
use Rattle.journal_core.specs.Text.{ended_lines}
use Rattle.journal_core.specs.Verdict.{IsLine, IsCut}
use Rattle.std.proofs.lemmas.List.Elements.{All-head, All-tail}

-- no byte of the list is the separator
abbrev pub Lacks : ℕ → List ℕ → Type 0
Lacks c xs = (i : ℕ) → i < length xs → get_or xs i 0 ≢ c

lacks_tail : (c x : ℕ) (xs : List ℕ) → Lacks c (x ∷ xs) → Lacks c xs
lacks_tail c x xs lacks i within = lacks (suc i) (omega arith)

pub split_same : (c : ℕ) (x y a b : List ℕ) → Lacks c x → Lacks c y → x ++ c ∷ a ≡ y ++ c ∷ b → (x ≡ y) × (a ≡ b)
split_same c [] [] a b p q is = (refl, cc)
split_same c [] (y ∷ ys) a b p q is = absurd (q 0 (omega arith) (cc))
split_same c (x ∷ xs) [] a b p q is = absurd (p 0 (omega arith) (cc))
split_same c (x ∷ xs) (y ∷ ys) a b p q is =
    let head : x ≡ y = cc in
    let tail : xs ++ c ∷ a ≡ ys ++ c ∷ b = cc in
    let rest = split_same c xs ys a b (lacks_tail c x xs p) (lacks_tail c y ys q) tail in
    ((λ i. head i ∷ rest.0 i), rest.1)

lacks_none : (c : ℕ) (x a : List ℕ) → Lacks c (x ++ c ∷ a) → ⊥
lacks_none c [] a lacks = lacks 0 (omega arith) refl
lacks_none c (x ∷ xs) a lacks = lacks_none c xs a (lacks_tail c x (xs ++ c ∷ a) lacks)

line_lacks : (line : List ℕ) → IsLine line → Lacks 10 line
line_lacks line is i within = is i 0 within

cut_from : (l m : List (List ℕ)) (r s : List ℕ) → All IsLine l → All IsLine m → IsLine r → IsLine s
    → ended_lines l ++ r ≡ ended_lines m ++ s → (l ≡ m) × (r ≡ s)
cut_from [] [] r s ls ms rl sl is = (refl, is)
cut_from [] (y ∷ ys) r s ls ms rl sl is =
    let e : r ≡ y ++ 10 ∷ (ended_lines ys ++ s) = is ∙ append_assoc y (10 ∷ ended_lines ys) s in
    absurd (lacks_none 10 y (ended_lines ys ++ s) (subst (Lacks 10) e (line_lacks r rl)))
cut_from (x ∷ xs) [] r s ls ms rl sl is =
    let e : x ++ 10 ∷ (ended_lines xs ++ r) ≡ s = sym (append_assoc x (10 ∷ ended_lines xs) r) ∙ is in
    absurd (lacks_none 10 x (ended_lines xs ++ r) (subst (Lacks 10) (sym e) (line_lacks s sl)))
cut_from (x ∷ xs) (y ∷ ys) r s ls ms rl sl is =
    let e : x ++ 10 ∷ (ended_lines xs ++ r) ≡ y ++ 10 ∷ (ended_lines ys ++ s) = sym (append_assoc x (10 ∷ ended_lines xs) r) ∙ is ∙ append_assoc y (10 ∷ ended_lines ys) s in
    let first = split_same 10 x y (ended_lines xs ++ r) (ended_lines ys ++ s) (line_lacks x (All-head IsLine x xs ls)) (line_lacks y (All-head IsLine y ys ms)) e in
    let later = cut_from xs ys r s (All-tail IsLine x xs ls) (All-tail IsLine y ys ms) rl sl first.1 in
    ((λ i. first.0 i ∷ later.0 i), later.1)

-- there is one way to cut bytes into lines and a rest
pub cut_same : (bytes : List ℕ) (l m : List (List ℕ)) (r s : List ℕ) → IsCut bytes l r → IsCut bytes m s → (l ≡ m) × (r ≡ s)
cut_same bytes l m r s a b = cut_from l m r s a.each b.each a.last b.last (sym a.whole ∙ b.whole)
