-- FILEs that a run keeps because their outputs exist, and what it prints for them.
use Rattle.std.specs.Prelude.{◌≡◌, ◌⊎◌, ℕ, List, [], ◌∷◌, ◌++◌, codes, flat_map}

-- each name is in the one list or the other, in order, and nothing else is
abbrev pub IsSplit : List (List ℕ) → List (List ℕ) → List (List ℕ) → Type 0
IsSplit [] kept others = (kept ≡ []) × (others ≡ [])
IsSplit (name ∷ names) kept others =
    ((rest : List (List ℕ)) × (kept ≡ name ∷ rest) × IsSplit names rest others)
    ⊎ ((rest : List (List ℕ)) × (others ≡ name ∷ rest) × IsSplit names kept rest)

-- the line of a FILE that is kept
abbrev pub kept_line : List ℕ → List ℕ
kept_line name = codes "kept " ++ name ++ 10 ∷ []

abbrev pub kept_text : List (List ℕ) → List ℕ
kept_text names = flat_map kept_line names
