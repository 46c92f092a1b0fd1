-- Inside: what the functions that open in rounds say to each other.
use Rattle.std.specs.Prelude.{◌≡◌, ◌⊎◌, ℕ, ◌+◌, ◌-◌, ◌*◌, ◌<◌, ◌≤◌, ◌++◌, Bool, true, List, [], ◌∷◌, length, min, Option}
use Rattle.std.specs.Prelude.{Some, None, Result, Ok, OnOk, OnErr, IfSome}
use Rattle.container_core.specs.Chunks.{sealed_chunks}
use Rattle.container_core.specs.Container.{size_in}
use Rattle.container_core.specs.declared.fault.OpenFault.{OpenFault}
use Rattle.container_core.specs.declared.fault.OpenFault.TheVariants as opening_fault
use Rattle.container_core.specs.Opening.{longest, opening, unsealed_by}
use Rattle.io_core.specs.Reads.{ConsumesUpTo}
use Rattle.io_core.specs.Streams.{Appends, AppendsFront, Consumes, IsAtEnd, IsFront, counted}
use Rattle.worker_core.specs.declared.round.Task.{Task}
use Rattle.worker_core.specs.declared.round.Task.TheVariants.{Opening}
use Rattle.container_core.specs.declared.TheConstants.{TAG}
use Rattle.worker_core.specs.Parts.{room_of}
use Rattle.worker_core.specs.Answer.{joined}
use Rattle.worker_core.specs.Views.{PlacesView}
use Rattle.worker_core.specs.Shared.{LastingView}
use Rattle.opening_core.specs.ReadAhead.{WindowView}
use Rattle.opening_core.specs.Engine.{open_read_failed, open_write_failed}
use Rattle.output_core.specs.Bounds.{Admits, Allows, Bound, Checked}

-- a round opens, and where it isn't only checked this is its plaintext
pub record OpensRound (task : Task) (key header : List ℕ) (first : ℕ) (last : Bool) (body joined : List ℕ)
    : Type 0 where
  pub plain : List ℕ
  pub opens : unsealed_by key header first last (sealed_chunks (size_in header) body) ≡ Ok plain
  pub kept : task ≡ Opening → joined ≡ plain

-- What became of the pieces on their places, and of what takes them: it had taken `taken` before, and `taken'` after.
pub record HasGathered (taken taken' : Option (List ℕ)) (failures failures' : Option ℕ) (bound bound' : Option Bound)
    (values : List (Option (List ℕ))) (result : Result (Unit {0}) OpenFault) : Type 0 where
  -- they follow what it took before, or at a fault a prefix of them does
  pub all : OnOk result (Appends taken taken' (joined values))
  pub begun : OnErr result (AppendsFront taken taken' (joined values))
  -- a failed write is Write, and no other fault is
  pub count : failures' ≡ counted (open_write_failed result) failures
  pub same : bound' ≡ bound

-- a fault of what takes the pieces: memory was refused, or, where it writes, a write failed
abbrev pub IsTakingFault : Bool → OpenFault → Type 0
IsTakingFault writes fault = (fault ≡ opening_fault.OutOfMemory) ⊎ ((fault ≡ opening_fault.Write) × (writes ≡ true))

-- or of a read
abbrev pub IsTurningFault : Bool → OpenFault → Type 0
IsTurningFault writes fault = (fault ≡ opening_fault.Read) ⊎ IsTakingFault writes fault

-- What a turn did with its reader and the window of the next round.
pub record HasTurned (left left' : Option (List ℕ)) (failures failures' : Option ℕ) (next next' : WindowView)
    (ahead upto : ℕ) (result : Result (Unit {0}) OpenFault) : Type 0 where
  -- what was read is in the window, after the byte that was seen
  pub read : OnOk result ((read : List ℕ) × Consumes left left' read × (next'.held ≡ ahead ∷ read))
  pub within : OnOk result (length next'.held ≤ upto)
  pub end : OnOk result (length next'.held < upto → IsAtEnd left')
  pub lost : OnErr result (ConsumesUpTo left left' (upto - 1))
  pub room : OnOk result (next.room ≤ next'.room)
  pub count : failures' ≡ counted (open_read_failed result) failures

-- how many bytes of a body are read at first: a window and one byte more, or up to one byte past the longest container
abbrev pub most_first : ℕ → List ℕ → ℕ → ℕ
most_first most header window = min (longest most header + 1 - length header) (window * (size_in header + TAG) + 1)

-- the crew can open `bytes` bytes of a container's body, in chunks of `size` bytes, and put their pieces on the places
pub record IsReady (task : Task) (size bytes : ℕ) (crew : LastingView) (places : PlacesView) : Type 0 where
  pub sizes : (crew.size ≡ room_of task size) × (places.size ≡ room_of task size)
  pub rooms : (crew.room ≡ places.room) × (crew.spare ≡ places.room) × (places.room ≤ crew.slots)
  pub enough : bytes ≤ places.room * (size + TAG)

-- where what follows the header makes it open, what was taken begins the plaintext
abbrev pub HasBegun : List ℕ → List ℕ → ℕ → Option (List ℕ) → Option (List ℕ) → Option (List ℕ) → Type 0
HasBegun key header most left taken taken' =
    IfSome left (λ rest. (plain : List ℕ) → opening key most (header ++ rest) ≡ Ok plain → AppendsFront taken taken' plain)

-- the input opens, and what was taken is its plaintext of n bytes
abbrev pub HasTaken : List ℕ → ℕ → Option (List ℕ) → Option (List ℕ) → Option (List ℕ) → ℕ → Type 0
HasTaken key most left taken taken' n = (plain : List ℕ) × Appends taken taken' plain × (n ≡ length plain)
    × IfSome left (λ input. opening key most input ≡ Ok plain)

-- at a last round a prefix of the pieces that waited was taken, or, where it opens, a prefix of these and its plaintext
abbrev pub HasBegunLast : List ℕ → List ℕ → ℕ → List ℕ → List (Option (List ℕ)) → Option (List ℕ) → Option (List ℕ) → Type 0
HasBegunLast key header first held waiting taken taken' =
    AppendsFront taken taken' (joined waiting)
    ⊎ ((last : List ℕ) × (unsealed_by key header first true (sealed_chunks (size_in header) held) ≡ Ok last)
    × AppendsFront taken taken' (joined waiting ++ last))

-- What was written of a container that wasn't opened to its end, whatever its bytes are: a prefix of what some chunks
-- open to, from the first on, or nothing. These chunks follow `before`, and begin what the reader had.
pub record HasSent (key header before : List ℕ) (left taken taken' : Option (List ℕ)) : Type 0 where
  pub body : List ℕ
  pub plain : List ℕ
  pub last : Bool
  pub read : IfSome left (IsFront (before ++ body))
  pub checked : (plain ≡ []) ⊎ (unsealed_by key header 0 last (sealed_chunks (size_in header) body) ≡ Ok plain)
  pub sent : AppendsFront taken taken' plain

-- A bounded output may hold, after what it took, what is opened of what follows the header, as far as its chunks are
-- checked. Or that makes the header open, and it may hold the plaintext.
abbrev pub MayTake : Task → List ℕ → List ℕ → ℕ → Option (List ℕ) → Option (List ℕ) → Bound → Type 0
MayTake task key header most left taken bound = (task ≡ Opening) × (held : List ℕ) × (rest : List ℕ)
    × (taken ≡ Some held) × (left ≡ Some rest) × ((bound ≡ Checked held key header (header ++ rest))
    ⊎ ((plain : List ℕ) × (opening key most (header ++ rest) ≡ Ok plain) × Allows bound (held ++ plain)))

-- an output may take the pieces that wait, and the plaintext of the last round after them
pub record MayTakeLast (task : Task) (key header : List ℕ) (first : ℕ) (held : List ℕ) (waiting : List (Option (List ℕ)))
    (bound : Option Bound) (taken : Option (List ℕ)) : Type 0 where
  pub before : Admits bound taken (joined waiting)
  pub other : (task ≡ Opening → ⊥) → bound ≡ None
  pub behind : task ≡ Opening → (last : List ℕ)
      → unsealed_by key header first true (sealed_chunks (size_in header) held) ≡ Ok last
      → Admits bound taken (joined waiting ++ last)
