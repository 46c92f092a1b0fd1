-- What the pieces of a round give together.
use Rattle.std.specs.Prelude.{◌≡◌, ℕ, suc, ◌+◌, List, [], ◌∷◌, ◌++◌, Option, Some, None, option_map, Result, Ok, Err}
use Rattle.container_core.specs.declared.fault.OpenFault.{OpenFault}
use Rattle.container_core.specs.declared.fault.OpenFault.TheVariants.{Forged}

-- the values of those that have one, joined in order
abbrev pub joined : List (Option (List ℕ)) → List ℕ
joined [] = []
joined (None ∷ values) = joined values
joined (Some bytes ∷ values) = bytes ++ joined values

-- a front of the joined values was appended
abbrev pub AppendsSome : List ℕ → List ℕ → List (Option (List ℕ)) → Type 0
AppendsSome old new values =
    (some : List ℕ) × (rest : List ℕ) × (joined values ≡ some ++ rest) × (new ≡ old ++ some)

-- the least number that has no value, if there is one
abbrev pub first_refused : List (Option (List ℕ)) → Option ℕ
first_refused [] = None
first_refused (None ∷ values) = Some 0
first_refused (Some bytes ∷ values) = option_map suc (first_refused values)

-- these bytes, unless a piece is refused
abbrev pub unless_refused : Option ℕ → List ℕ → Result (List ℕ) ℕ
unless_refused None bytes = Ok bytes
unless_refused (Some n) bytes = Err n

-- what one thread returns for a round: the values joined, or the least number that has none
abbrev pub answer : List (Option (List ℕ)) → Result (List ℕ) ℕ
answer values = unless_refused (first_refused values) (joined values)

-- the same, with a chunk that doesn't check named as opening does; the first chunk has this number
abbrev pub named : ℕ → Result (List ℕ) ℕ → Result (List ℕ) OpenFault
named first (Ok plain) = Ok plain
named first (Err n) = Err (Forged (first + n))
