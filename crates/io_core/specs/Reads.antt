-- Definitions for the contracts of functions that read to the end.
use Rattle.std.specs.Prelude.{◌≡◌, ℕ, ◌<◌, ◌≤◌, Bool, true, false, List, length, Option, Result, Ok, Err}
use Rattle.io_core.specs.Streams.{Consumes}
use Rattle.io_core.specs.declared.input.ReadFault.{ReadFault}
use Rattle.io_core.specs.declared.input.ReadFault.TheVariants.{TooLong, OutOfMemory, Read}

-- known bytes lost their first n
abbrev pub ConsumesExactly : Option (List ℕ) → Option (List ℕ) → ℕ → Type 0
ConsumesExactly old new n = (front : List ℕ) × Consumes old new front × (length front ≡ n)

-- known bytes lost at most this many at the front
abbrev pub ConsumesUpTo : Option (List ℕ) → Option (List ℕ) → ℕ → Type 0
ConsumesUpTo old new most = (front : List ℕ) × Consumes old new front × (length front ≤ most)

-- known bytes lost fewer than this many at the front
abbrev pub ConsumesFewer : Option (List ℕ) → Option (List ℕ) → ℕ → Type 0
ConsumesFewer old new room = (front : List ℕ) × Consumes old new front × (length front < room)

-- whether it failed because the reader did
abbrev pub is_read : {A : Type 0} → Result A ReadFault → Bool
is_read (Ok value) = false
is_read (Err TooLong) = false
is_read (Err OutOfMemory) = false
is_read (Err Read) = true
