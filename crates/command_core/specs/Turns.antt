-- Lines that were printed, and the file of a number.
use Rattle.std.specs.Prelude.{◌≡◌, ℕ, ◌+◌, ◌<◌, List, [], ◌∷◌, ◌++◌, length, Option, map, take}
use Rattle.command_core.specs.declared.commands.OpenOptions.{OpenOptions}

-- What a report took, and how many writes to it failed, if that is known.
pub record Printed : Type 0 where
  pub taken : Option (List ℕ)
  pub failures : Option ℕ

abbrev pub printed : Option (List ℕ) → Option ℕ → Printed
printed taken failures = record { taken = taken; failures = failures }

-- This is the name of the file of this number.
abbrev pub IsFileAt : OpenOptions → ℕ → List ℕ → Type 0
IsFileAt options number name = (number < length options.files.now)
    × (map (λ name. name.now) (take number options.files.now) ++ name ∷ []
    ≡ map (λ name. name.now) (take (number + 1) options.files.now))
