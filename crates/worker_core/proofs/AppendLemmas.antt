-- The bytes of the pieces, appended one by one.
use Rattle.std.proofs.Common.{◌≡◌, ℕ, zero, suc, ◌+◌, ◌<◌, ◌≤◌, List, [], ◌∷◌, ◌++◌, length, take, drop, get_or}
use Rattle.std.proofs.Common.{Option, Some, None, Result, Ok, Err, OnErr, refl, ap, sym, ◌∙◌, arith, append_assoc, length-append, take-append-drop}
use lib.Seq.{take-suc}
use Rattle.std.proofs.lemmas.List.{take-take}
use Rattle.worker_core.specs.Answer.{joined, AppendsSome}

joined-append : (xs ys : List (Option (List ℕ))) → joined (xs ++ ys) ≡ joined xs ++ joined ys
joined-append [] ys = refl
joined-append (None ∷ xs) ys = joined-append xs ys
joined-append (Some b ∷ xs) ys = ap (λ (l : List ℕ). b ++ l) (joined-append xs ys) ∙ sym (append_assoc b (joined xs) (joined ys))

-- what was appended so far, and one more piece, which has bytes or none
pub appended-more : (values : List (Option (List ℕ))) (n : ℕ) (v : Option (List ℕ)) (before old new : List ℕ) → n < length values
    → v ≡ get_or values n None → old ≡ before ++ joined (take n values) → new ≡ old ++ joined (v ∷ [])
    → new ≡ before ++ joined (take (n + 1) values)
appended-more values n v before old new below is so_far more =
    let next : n + 1 ≡ suc n = omega arith in
    let grown : joined (take (n + 1) values) ≡ joined (take n values) ++ joined (v ∷ []) =
    ap (λ (k : ℕ). joined (take k values)) next
    ∙ ap joined (take-suc values n None below)
    ∙ joined-append (take n values) (get_or values n None ∷ [])
    ∙ ap (λ (o : Option (List ℕ)). joined (take n values) ++ joined (o ∷ [])) (sym is) in
    more ∙ ap (λ (l : List ℕ). l ++ joined (v ∷ [])) so_far
    ∙ append_assoc before (joined (take n values)) (joined (v ∷ []))
    ∙ ap (λ (l : List ℕ). before ++ l) (sym grown)

-- what holds in any case holds at an error
pub at-error : {T E : Type 0} (r : Result T E) (P : Type 0) → P → OnErr r P
at-error (Ok v) P p = tt
at-error (Err e) P p = p

-- the pieces so far are a front of as many as there are
pub appended-some : (values : List (Option (List ℕ))) (n count : ℕ) (old new : List ℕ) → n ≤ count
    → new ≡ old ++ joined (take n values) → AppendsSome old new (take count values)
appended-some values n count old new within is =
    let some = take count values in (
      joined (take n values),
      joined (drop n some),
      ap joined (sym (take-append-drop n some)) ∙ joined-append (take n some) (drop n some)
          ∙ ap (λ l. joined l ++ joined (drop n some)) (take-take n count values within),
      is,
    )

-- the same of all
pub appended-front : (values : List (Option (List ℕ))) (n : ℕ) (old new : List ℕ)
    → new ≡ old ++ joined (take n values) → AppendsSome old new values
appended-front values n old new is = (
  joined (take n values),
  joined (drop n values),
  ap joined (sym (take-append-drop n values)) ∙ joined-append (take n values) (drop n values),
  is,
)

-- a piece and those before it have no more bytes than all
pub piece-within : (values : List (Option (List ℕ))) (n : ℕ) (bytes : List ℕ) → n < length values
    → Some bytes ≡ get_or values n None → length (joined (take n values)) + length bytes ≤ length (joined values)
piece-within [] n bytes below is = absurd (omega arith)
piece-within (None ∷ values) zero bytes below is = cc
piece-within (Some first ∷ values) zero bytes below is =
    let same : first ≡ bytes = cc in
    let long = length-append first (joined values) in
    rw (← same) (omega arith)
piece-within (None ∷ values) (suc n) bytes below is = piece-within values n bytes (omega arith) is
piece-within (Some first ∷ values) (suc n) bytes below is =
    let rest = piece-within values n bytes (omega arith) is in
    let front = length-append first (joined (take n values)) in
    let all = length-append first (joined values) in
    omega arith
