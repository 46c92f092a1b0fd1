-- What an output may hold.
use Rattle.std.specs.Prelude.{◌≡◌, ◌⊎◌, ℕ, Bool, List, [], ◌++◌, Option, Some, IfSome, Ok}
use Rattle.io_core.specs.Streams.{IsFront}
use Rattle.container_core.specs.Chunks.{sealed_chunks}
use Rattle.container_core.specs.Container.{container, size_in}
use Rattle.container_core.specs.Opening.{unsealed_by}
use Rattle.container_core.specs.Shape.{ShapeView}

-- What an output may hold: some bytes, then the container of some plaintext, under a key, in a shape and under a prefix; or
-- exactly these bytes; or some bytes, then what is opened of an input whose chunks are checked under a key and a header.
pub data Bound : Type 0 where
  Container : List ℕ → List ℕ → ShapeView → List ℕ → Bound
  Exactly : List ℕ → Bound
  Checked : List ℕ → List ℕ → List ℕ → List ℕ → Bound

-- The input begins with this header and some chunks that open to this under the key, each at its place; or this is nothing.
abbrev pub IsChecked : List ℕ → List ℕ → List ℕ → List ℕ → Type 0
IsChecked key header input plain = (plain ≡ []) ⊎ ((body : List ℕ) × (last : Bool) × IsFront (header ++ body) input
    × (unsealed_by key header 0 last (sealed_chunks (size_in header) body) ≡ Ok plain))

-- these bytes are a front of what it may hold
abbrev pub Allows : Bound → List ℕ → Type 0
Allows (Container before key shape prefix) bytes =
    (plain : List ℕ) × IsFront bytes (before ++ container key shape prefix plain)
Allows (Exactly whole) bytes = IsFront bytes whole
Allows (Checked before key header input) bytes =
    (plain : List ℕ) × IsChecked key header input plain × IsFront bytes (before ++ plain)

-- A bounded output knows what it took, and that followed by these bytes is a front of what it may hold.
abbrev pub Admits : Option Bound → Option (List ℕ) → List ℕ → Type 0
Admits bound taken bytes = IfSome bound (λ b. (held : List ℕ) × (taken ≡ Some held) × Allows b (held ++ bytes))

-- the same of what it took alone
abbrev pub IsWithin : Option Bound → Option (List ℕ) → Type 0
IsWithin bound taken = IfSome bound (λ b. (held : List ℕ) × (taken ≡ Some held) × Allows b held)
