-- The places of files below a folder, each with the folders of its path.
use Rattle.std.specs.Prelude.{◌≡◌, ◌≢◌, ℕ, Bool, not, ◌||◌, ◌==◌, if◌then◌else◌, List, [], ◌∷◌, ◌++◌, Option, Some, None, bytes_eq, codes, filter, flat_map, option_map}
use Rattle.std.specs.List.{All, filter_map, list_any}

-- a byte in front of the first of these parts
abbrev pub begun : ℕ → List (List ℕ) → List (List ℕ)
begun byte [] = (byte ∷ []) ∷ []
begun byte (part ∷ others) = (byte ∷ part) ∷ others

-- the parts of a path, between its slashes
abbrev pub parts : List ℕ → List (List ℕ)
parts [] = [] ∷ []
parts (byte ∷ path) = if byte == 47 then [] ∷ parts path else begun byte (parts path)

-- a part that names nothing: it is empty or `.`
abbrev pub is_nothing : List ℕ → Bool
is_nothing part = bytes_eq part [] || bytes_eq part (codes ".")

-- a part that names the folder above
abbrev pub is_up : List ℕ → Bool
is_up part = bytes_eq part (codes "..")

-- the last of these parts, or the first argument if there are none
abbrev pub last_or : List ℕ → List (List ℕ) → List ℕ
last_or part [] = part
last_or part (other ∷ others) = last_or other others

-- those of these parts that name something
abbrev pub named : List (List ℕ) → List (List ℕ)
named parts = filter (λ part. not (is_nothing part)) parts

-- The place of a path below a folder: the parts that name something. A path with a part `..` has none, nor one whose
-- last part names nothing.
unfoldable pub place : List ℕ → Option (List (List ℕ))
place path = if list_any is_up (parts path) || is_nothing (last_or [] (parts path)) then None else Some (named (parts path))

-- these parts as the end of a path: a slash before each
abbrev pub steps : List (List ℕ) → List ℕ
steps parts = flat_map (λ part. 47 ∷ part) parts

-- the ends of the paths of these files' outputs, of those that have a place
abbrev pub places : List (List ℕ) → List (List ℕ)
places paths = filter_map (λ path. option_map steps (place path)) paths

-- the path of the output for a path below a folder
abbrev pub IsPlaced : List ℕ → List ℕ → List ℕ → Type 0
IsPlaced folder path below = (folder ≢ []) × ((ps : List (List ℕ)) × (place path ≡ Some ps) × (below ≡ folder ++ steps ps))

-- a part of a place: a name, without slashes, that is neither `.` nor `..`
abbrev pub IsStep : List ℕ → Type 0
IsStep part = (part ≢ []) × (part ≢ codes ".") × (part ≢ codes "..") × All (λ byte. byte ≢ 47) part
