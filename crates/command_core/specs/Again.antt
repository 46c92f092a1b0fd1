-- What the contracts of an opening by two readings cite.
use Rattle.std.specs.Prelude.{◌≡◌, ◌⊎◌, ℕ, List, Option, Some, IfSome, Ok}
use Rattle.container_core.specs.Faults.{IsOfBytes}
use Rattle.container_core.specs.Opening.{opening}
use Rattle.io_core.specs.Streams.{Keeps}
use Rattle.opening_core.specs.declared.twice.Stopped.{Stopped}
use Rattle.opening_core.specs.declared.twice.Stopped.TheVariants.{Refused, Changed, Broken}
use Rattle.opening_core.specs.Engine.{BeginsPlaintext, HasHeader}
use Rattle.opening_core.specs.Twice.{WritesSome}
use Rattle.opening_core.specs.Windows.{HasSent}
use Rattle.command_core.specs.Labels.{IsLabelled}

-- Why a second reading stopped, of what had this header: it gave other bytes, or memory or a call failed.
abbrev pub IsAgainFault : List ℕ → List ℕ → ℕ → Option (List ℕ) → Stopped → Type 0
IsAgainFault key header most left (Refused fault) = ⊥
IsAgainFault key header most left Changed = IfSome left (λ input. (plain : List ℕ) → HasHeader header input
    → opening key most input ≡ Ok plain → ⊥)
IsAgainFault key header most left (Broken fault) = ¬ IsOfBytes fault

-- What was written of a second reading that wasn't opened to its end: a prefix of its plaintext, where it has one.
-- Whatever it gave, it is nothing, or a prefix of what its first chunks open to under the header of the first reading, or
-- of its plaintext if it opens and has that header.
abbrev pub IsBegun : List ℕ → ℕ → List ℕ → List ℕ → Option (List ℕ) → Option (List ℕ) → Type 0
IsBegun key most header last taken taken' = WritesSome key most taken taken' last
    × (Keeps taken taken' ⊎ (HasSent key header header (Some last) taken taken'
    ⊎ (HasHeader header last × BeginsPlaintext key most last taken taken')))

-- the input opens to this plaintext, and has the label
abbrev pub IsGood : List ℕ → ℕ → Option (List ℕ) → List ℕ → List ℕ → Type 0
IsGood key most label input plain = (opening key most input ≡ Ok plain) × IsLabelled label input
