-- Definitions for the contracts of readers and writers. Those on known bytes are std's, which `Read` and `Write` use
-- too. So an adapter's contract is that of the inner reader or writer.
pub use Rattle.std.specs.Io.KnownBytes.{Keeps, Appends, Consumes, IsAtEnd, ReadConsumes, WriteAppends}
use Rattle.std.specs.Prelude.{◌≡◌, ℕ, ◌+◌, Bool, true, false, nat_lt, if◌then◌else◌}
use Rattle.std.specs.Prelude.{List, ◌++◌, Option, None, Some, IfSome}

-- the greatest 64-bit number: 2^64 - 1
abbrev pub most_count : ℕ
most_count = 18446744073709551615

-- the count of failures after a call, raised by one if it failed; past 64 bits it is unknown
abbrev pub counted : Bool → Option ℕ → Option ℕ
counted false count = count
counted true None = None
counted true (Some count) = if nat_lt count most_count then Some (count + 1) else None

-- the list begins with this front
abbrev pub IsFront : List ℕ → List ℕ → Type 0
IsFront front whole = (rest : List ℕ) × (whole ≡ front ++ rest)

-- known bytes grew by a front of `whole`
abbrev pub AppendsFront : Option (List ℕ) → Option (List ℕ) → List ℕ → Type 0
AppendsFront old new whole = (front : List ℕ) × IsFront front whole × Appends old new front

-- known bytes didn't grow by all of `whole`
abbrev pub LacksSome : Option (List ℕ) → Option (List ℕ) → List ℕ → Type 0
LacksSome old new whole = IfSome old (λ _. ¬ Appends old new whole)
