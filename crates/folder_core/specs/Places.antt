-- The base names of paths. Outputs in one folder get these names.
use Rattle.std.specs.Prelude.{◌≡◌, ◌≢◌, ◌⊎◌, ℕ, ◌<◌, List, [], ◌∷◌, ◌++◌, codes, length}
use Rattle.std.specs.List.{All, AllPairs, AllZip, slice_index_or}

-- the part after the last slash of a path, or the whole path if it has no slash
abbrev pub IsBehind : List ℕ → List ℕ → Type 0
IsBehind path name = All (λ byte. byte ≢ 47) name × ((path ≡ name) ⊎ ((front : List ℕ) × (path ≡ front ++ 47 ∷ name)))

-- no file has this name: it is empty, `.` or `..`
abbrev pub IsNoName : List ℕ → Type 0
IsNoName name = (name ≡ []) ⊎ (name ≡ codes ".") ⊎ (name ≡ codes "..")

-- the base name of a path: the part after its last slash, if that is a name
abbrev pub IsLastName : List ℕ → List ℕ → Type 0
IsLastName path name = IsBehind path name × ¬ IsNoName name

-- a path without a base name: the part after its last slash is no name
abbrev pub HasNoLastName : List ℕ → Type 0
HasNoLastName path = (name : List ℕ) × IsBehind path name × IsNoName name

-- each of these paths has a base name, and no two of these names are the same
abbrev pub AreApart : List (List ℕ) → Type 0
AreApart paths = (names : List (List ℕ)) × AllZip IsLastName paths names × AllPairs (λ one other. one ≢ other) names

-- one of these paths has no base name
abbrev pub OneHasNone : List (List ℕ) → Type 0
OneHasNone paths = (i : ℕ) × (i < length paths) × HasNoLastName (slice_index_or paths i [])

-- two of these paths have the same base name
abbrev pub TwoHaveOne : List (List ℕ) → Type 0
TwoHaveOne paths = (i : ℕ) × (j : ℕ) × (i < j) × (j < length paths)
    × ((name : List ℕ) × IsLastName (slice_index_or paths i []) name × IsLastName (slice_index_or paths j []) name)

-- the path of the output for a path below a folder: the folder, a slash and the path's base name
abbrev pub IsBelow : List ℕ → List ℕ → List ℕ → Type 0
IsBelow folder path below = (folder ≢ []) × ((name : List ℕ) × IsLastName path name × (below ≡ folder ++ 47 ∷ name))
