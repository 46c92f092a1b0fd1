-- A name after the others is in one of the two lists.
use Rattle.std.proofs.Common.{◌≡◌, ◌<◌, ◌+◌, inl, inr, ⊎_elim, ℕ, List, [], ◌∷◌, ◌++◌, Bor, ap, refl, sym, ◌∙◌, map}
use Rattle.std.proofs.Common.{get_or, length, subst, take}
use Rattle.std.proofs.lemmas.List.{map-append}
use Rattle.command_core.proofs.Telling.{names-step}
use Rattle.system_files.specs.Kept.{IsSplit}

pub push_kept : (names kept others : List (List ℕ)) (name : List ℕ) → IsSplit names kept others
    → IsSplit (names ++ name ∷ []) (kept ++ name ∷ []) others
push_kept [] kept others name split = inl ([], ap (λ l. l ++ name ∷ []) split.0, (refl, split.1))
push_kept (first ∷ names) kept others name split =
    ⊎_elim (λ one. inl (one.0 ++ name ∷ [], ap (λ l. l ++ name ∷ []) one.1, push_kept names one.0 others name one.2))
    (λ other. inr (other.0, other.1, push_kept names kept other.0 name other.2)) split

pub push_other : (names kept others : List (List ℕ)) (name : List ℕ) → IsSplit names kept others
    → IsSplit (names ++ name ∷ []) kept (others ++ name ∷ [])
push_other [] kept others name split = inr ([], ap (λ l. l ++ name ∷ []) split.1, (split.0, refl))
push_other (first ∷ names) kept others name split =
    ⊎_elim (λ one. inl (one.0, one.1, push_other names one.0 others name one.2))
    (λ other. inr (other.0 ++ name ∷ [], ap (λ l. l ++ name ∷ []) other.1, push_other names kept other.0 name other.2))
    split

abbrev now : List (Bor (List ℕ)) → List (List ℕ)
now names = map (λ name. name.now) names

-- the next file is kept
pub more_kept : (files : List (Bor (List ℕ))) (i : ℕ) (d : Bor (List ℕ)) (kept others kept' others' : List (Bor (List ℕ)))
    → i < length files → kept' ≡ kept ++ get_or files i d ∷ [] → others' ≡ others
    → IsSplit (now (take i files)) (now kept) (now others)
    → IsSplit (now (take (i + 1) files)) (now kept') (now others')
more_kept files i d kept others kept' others' less more same split =
    let first = push_kept (now (take i files)) (now kept) (now others) (get_or files i d).now split in
    let grown : now kept' ≡ now kept ++ (get_or files i d).now ∷ [] = ap now more ∙ map-append (λ (f : Bor (List ℕ)). f.now) kept (get_or files i d ∷ []) in
    subst (λ l. IsSplit l (now kept') (now others')) (names-step files i d less)
    (subst (λ l. IsSplit (now (take i files) ++ (get_or files i d).now ∷ []) (now kept') l) (ap now (sym same))
    (subst (λ l. IsSplit (now (take i files) ++ (get_or files i d).now ∷ []) l (now others)) (sym grown) first))

-- the next file isn't kept
pub more_others : (files : List (Bor (List ℕ))) (i : ℕ) (d : Bor (List ℕ)) (kept others kept' others' : List (Bor (List ℕ)))
    → i < length files → kept' ≡ kept → others' ≡ others ++ get_or files i d ∷ []
    → IsSplit (now (take i files)) (now kept) (now others)
    → IsSplit (now (take (i + 1) files)) (now kept') (now others')
more_others files i d kept others kept' others' less same more split =
    let first = push_other (now (take i files)) (now kept) (now others) (get_or files i d).now split in
    let grown : now others' ≡ now others ++ (get_or files i d).now ∷ [] = ap now more ∙ map-append (λ (f : Bor (List ℕ)). f.now) others (get_or files i d ∷ []) in
    subst (λ l. IsSplit l (now kept') (now others')) (names-step files i d less)
    (subst (λ l. IsSplit (now (take i files) ++ (get_or files i d).now ∷ []) l (now others')) (ap now (sym same))
    (subst (λ l. IsSplit (now (take i files) ++ (get_or files i d).now ∷ []) (now kept) l) (sym grown) first))
