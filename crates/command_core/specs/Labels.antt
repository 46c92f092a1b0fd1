-- Which containers are accepted if a label is asked for.
use Rattle.std.specs.Prelude.{◌≡◌, ℕ, List, Option, Some, None, ⊤}
use Rattle.container_core.specs.Container.{label_in}

-- the label is the one that is asked for. Version 1 has none, which is not the empty label
abbrev pub IsLabelled : Option (List ℕ) → List ℕ → Type 0
IsLabelled None bytes = ⊤
IsLabelled (Some label) bytes = label_in bytes ≡ Some label
