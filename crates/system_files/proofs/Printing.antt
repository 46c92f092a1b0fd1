-- The lines of all FILEs that are kept: those before one, its own, and those after it.
use Rattle.std.proofs.Common.{◌≡◌, ◌<◌, ℕ, suc, Bor, List, ◌∷◌, ◌++◌, ap, sym, ◌∙◌, get_or, length, map, take, drop, take-append-drop}
use Rattle.std.proofs.Math.Seq.{drop-cons}
use Rattle.std.proofs.lemmas.Grind.{flat_map-append}
use Rattle.std.proofs.lemmas.List.{map-append}
use Rattle.system_files.specs.Kept.{kept_line, kept_text}

-- the names before one, its own, and those after it
names_around : (files : List (Bor (List ℕ))) (i : ℕ) (d : Bor (List ℕ)) → i < length files
    → map (λ (f : Bor (List ℕ)). f.now) files
    ≡ map (λ (f : Bor (List ℕ)). f.now) (take i files) ++ (get_or files i d).now ∷ map (λ (f : Bor (List ℕ)). f.now) (drop (suc i) files)
names_around files i d h =
    ap (map (λ (f : Bor (List ℕ)). f.now)) (sym (take-append-drop i files) ∙ ap (λ l. take i files ++ l) (drop-cons files i d h))
    ∙ map-append (λ (f : Bor (List ℕ)). f.now) (take i files) (get_or files i d ∷ drop (suc i) files)

-- and their lines
pub text_around : (files : List (Bor (List ℕ))) (i : ℕ) (d : Bor (List ℕ)) → i < length files
    → kept_text (map (λ (f : Bor (List ℕ)). f.now) files)
    ≡ kept_text (map (λ (f : Bor (List ℕ)). f.now) (take i files))
    ++ (kept_line (get_or files i d).now ++ kept_text (map (λ (f : Bor (List ℕ)). f.now) (drop (suc i) files)))
text_around files i d h =
    ap kept_text (names_around files i d h)
    ∙ flat_map-append kept_line (map (λ (f : Bor (List ℕ)). f.now) (take i files)) ((get_or files i d).now ∷ map (λ (f : Bor (List ℕ)). f.now) (drop (suc i) files))
