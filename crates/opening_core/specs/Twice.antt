-- What the contracts of an opening by two readings cite.
use Rattle.std.specs.Prelude.{◌≡◌, ◌⊎◌, ℕ, List, ◌++◌, length, Bool, true, false, Option, Some, IfSome}
use Rattle.std.specs.Prelude.{Result, Ok, Err, OnErr, IfOk}
use Rattle.container_core.specs.declared.fault.OpenFault.{OpenFault}
use Rattle.container_core.specs.declared.fault.OpenFault.TheVariants as opening_fault
use Rattle.container_core.specs.Faults.{IsOfBytes}
use Rattle.container_core.specs.Opening.{opening}
use Rattle.io_core.specs.Streams.{Appends, AppendsFront, Keeps, counted}
use Rattle.io_core.specs.Views.{IoView}
use Rattle.opening_core.specs.declared.twice.Stopped.{Stopped}
use Rattle.opening_core.specs.declared.twice.Stopped.TheVariants.{Refused, Changed, Broken}
use Rattle.opening_core.specs.Engine.{HasHeader}
use Rattle.opening_core.specs.Windows.{HasSent}
use Rattle.output_core.specs.Bounds.{Allows, Bound, Checked}

-- whether it was broken off by a failed read, or by a failed write
abbrev pub broken_by_read : Result ℕ Stopped → Bool
broken_by_read (Ok n) = false
broken_by_read (Err (Broken opening_fault.Read)) = true
broken_by_read (Err _) = false

abbrev pub broken_by_write : Result ℕ Stopped → Bool
broken_by_write (Ok n) = false
broken_by_write (Err (Broken opening_fault.Write)) = true
broken_by_write (Err _) = false

-- whether a read failed, or a reading couldn't be begun
abbrev pub stopped_by_read : Result ℕ Stopped → Bool
stopped_by_read (Ok n) = false
stopped_by_read (Err (Refused opening_fault.Read)) = true
stopped_by_read (Err (Broken opening_fault.Read)) = true
stopped_by_read (Err _) = false

-- where a count of failed calls is known, it went on, by one if a call failed
abbrev pub CountsOn : Bool → Option ℕ → Option ℕ → Type 0
CountsOn failed before after = IfSome before (λ n. after ≡ counted failed (Some n))

-- the input opens, and its plaintext, of n bytes, was written
abbrev pub WritesAll : List ℕ → ℕ → Option (List ℕ) → Option (List ℕ) → List ℕ → ℕ → Type 0
WritesAll key most taken taken' input n =
    (plain : List ℕ) × (opening key most input ≡ Ok plain) × Appends taken taken' plain × (n ≡ length plain)

-- where the input opens, a prefix of its plaintext was written
abbrev pub WritesSome : List ℕ → ℕ → Option (List ℕ) → Option (List ℕ) → List ℕ → Type 0
WritesSome key most taken taken' input =
    (plain : List ℕ) → opening key most input ≡ Ok plain → AppendsFront taken taken' plain

-- What a second reading did, of a container with this header that a first one checked.
pub record HasWrittenAgain (key header : List ℕ) (most : ℕ) (old new : IoView) (result : Result ℕ Stopped)
    : Type 0 where
  -- a container with the header of the first reading was given, and nothing else, and its whole plaintext was written
  pub written : IfOk result (λ n. (input : List ℕ) × HasHeader header input
      × WritesAll key most old.taken new.taken input n × IfSome old.left (λ bytes. bytes ≡ input))
  -- else a prefix of it, where it has one
  pub begun : OnErr result (IfSome old.left (WritesSome key most old.taken new.taken))
  -- whatever it gave, each byte that was written is of a chunk that was checked, under that header and at its place
  pub checked : OnErr result (Keeps old.taken new.taken ⊎ HasSent key header header old.left old.taken new.taken)
  -- it gave other bytes: they don't open, or have another header
  pub changed : result ≡ Err Changed → IfSome old.left (λ input. (plain : List ℕ) → HasHeader header input
      → opening key most input ≡ Ok plain → ⊥)
  -- no fault is one of the first reading
  pub checked_before : (fault : OpenFault) → result ≡ Err (Refused fault) → ⊥
  -- what broke it off is no fault of the bytes: it is Read or Write exactly where a call failed
  pub broken : (fault : OpenFault) → result ≡ Err (Broken fault) → IsOfBytes fault → ⊥
  pub read : new.read_failures ≡ counted (broken_by_read result) old.read_failures
  pub write : new.write_failures ≡ counted (broken_by_write result) old.write_failures

-- What an opening by two readings did. Each reading gives `old.left`, where that is known. Failed reads are those of
-- both.
pub record HasOpenedTwice (key : List ℕ) (most : ℕ) (old new : IoView) (result : Result ℕ Stopped) : Type 0 where
  -- the bytes are a container, and what was written is its plaintext (where the bytes aren't known: that of some)
  pub written : IfOk result (λ n. (input : List ℕ) × WritesAll key most old.taken new.taken input n
      × IfSome old.left (λ known. known ≡ input))
  -- at a refusal nothing was written, and a fault of the bytes is the first that they have
  pub unwritten : (fault : OpenFault) → result ≡ Err (Refused fault) → Keeps old.taken new.taken
  pub refused : (fault : OpenFault) → result ≡ Err (Refused fault) → IsOfBytes fault
      → IfSome old.left (λ input. opening key most input ≡ Err fault)
  -- where it was broken off after the check, the bytes are a container, and a prefix of its plaintext was written
  pub begun : (fault : OpenFault) → result ≡ Err (Broken fault)
      → IfSome old.left
      (λ input. (plain : List ℕ) × (opening key most input ≡ Ok plain) × AppendsFront old.taken new.taken plain)
  pub broken : (fault : OpenFault) → result ≡ Err (Broken fault) → IsOfBytes fault → ⊥
  -- it is Read or Write exactly where a call failed; each reading was ended
  pub read : CountsOn (stopped_by_read result) old.read_failures new.read_failures
  pub write : new.write_failures ≡ counted (broken_by_write result) old.write_failures
  -- readings that give the same bytes don't differ
  pub same : result ≡ Err Changed → IfSome old.left (λ _. ⊥)

-- A bounded output may hold, after what it took, what is opened of the input, as far as its chunks are checked under the
-- header of the first reading. Or the input opens, and it may hold the plaintext.
abbrev pub MayWrite : List ℕ → List ℕ → ℕ → Option (List ℕ) → Option (List ℕ) → Bound → Type 0
MayWrite key header most left taken bound = (held : List ℕ) × (input : List ℕ)
    × (taken ≡ Some held) × (left ≡ Some input) × ((bound ≡ Checked held key header input)
    ⊎ ((plain : List ℕ) × (opening key most input ≡ Ok plain) × Allows bound (held ++ plain)))

-- where the input opens, a bounded output may hold its plaintext after what it took
abbrev pub MayWriteIt : List ℕ → ℕ → Option (List ℕ) → Option (List ℕ) → Bound → Type 0
MayWriteIt key most bytes taken bound = (input : List ℕ) × (held : List ℕ) × (bytes ≡ Some input) × (taken ≡ Some held)
    × ((plain : List ℕ) → opening key most input ≡ Ok plain → Allows bound (held ++ plain))
