-- What a list of names is.
use Rattle.std.specs.Prelude.{◌≡◌, ◌≢◌, ◌⊎◌, ℕ, ◌+◌, List, [], ◌∷◌, ◌++◌, Option, None, Some, if◌then◌else◌, option_map, option_to_list}
use Rattle.std.specs.List.{All}
use Rattle.std.specs.Str.{is_utf8}
use Rattle.command_line.specs.declared.lists.PieceFault.{PieceFault}
use Rattle.command_line.specs.declared.lists.PieceFault.TheVariants.{Empty, NotText}

-- names one after the other, each with the separator after it
abbrev pub each_ended : ℕ → List (List ℕ) → List ℕ
each_ended separator [] = []
each_ended separator (name ∷ names) = name ++ separator ∷ each_ended separator names

-- a name that a list can have: it isn't empty and has no separator
abbrev pub IsName : ℕ → List ℕ → Type 0
IsName separator name = (name ≢ []) × All (λ byte. byte ≢ separator) name

-- what a text lists: names, each followed by the separator, which the last one may lack
abbrev pub IsListOf : ℕ → List ℕ → List (List ℕ) → Type 0
IsListOf separator text names = All (IsName separator) names
    × ((text ≡ each_ended separator names) ⊎ (text ++ separator ∷ [] ≡ each_ended separator names))

-- what a list has, if there is one
abbrev pub IsListed : ℕ → Option (List ℕ) → List (List ℕ) → Type 0
IsListed separator None names = names ≡ []
IsListed separator (Some text) names = IsListOf separator text names

-- What a list has between its separators, names or not: pieces, each followed by a separator, which the last one may
-- lack if it isn't empty.
abbrev pub ArePiecesOf : ℕ → List ℕ → List (List ℕ) → Type 0
ArePiecesOf separator list pieces = All (λ piece. All (λ byte. byte ≢ separator) piece) pieces × ((list ≡ each_ended separator pieces)
    ⊎ ((front : List (List ℕ)) × (last : List ℕ) × (last ≢ []) × (pieces ≡ front ++ last ∷ []) × (list ≡ each_ended separator front ++ last)))

-- the pieces of a list, if there is one
abbrev pub ArePieces : ℕ → Option (List ℕ) → List (List ℕ) → Type 0
ArePieces separator None pieces = pieces ≡ []
ArePieces separator (Some list) pieces = ArePiecesOf separator list pieces

-- why a piece is no name, if it is none
unfoldable pub fault_of_piece : List ℕ → Option PieceFault
fault_of_piece [] = Some Empty
fault_of_piece (byte ∷ piece) = if is_utf8 (byte ∷ piece) then None else Some NotText

-- those of these pieces that are no names: the number of each, counted from this one on, why it is none, and its bytes
abbrev pub bad_pieces : ℕ → List (List ℕ) → List (ℕ × PieceFault × List ℕ)
bad_pieces number [] = []
bad_pieces number (piece ∷ pieces) =
    option_to_list (option_map (λ fault. (number, fault, piece)) (fault_of_piece piece)) ++ bad_pieces (number + 1) pieces
