-- What a witness holds of the ranges of a ledger file.
use Rattle.std.specs.Prelude.{◌≡◌, ◌≤◌, ℕ, List, [], ◌∷◌, ◌++◌, Option, option_map}
use Rattle.journal_core.specs.Range.{Numbers}

-- what it recorded has this range at its end now
abbrev pub Records : Option (List Numbers) → Option (List Numbers) → Numbers → Type 0
Records old new range = new ≡ option_map (λ ranges. ranges ++ range ∷ []) old

-- A range was reserved where the witness allowed it, and it recorded the range.
pub record IsWitnessed (floor : ℕ) (old new : Option (List Numbers)) (range : Numbers) : Type 0 where
  pub above : floor ≤ range.lo
  pub recorded : Records old new range
