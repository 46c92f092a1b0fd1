-- Pieces in their places, and what is written.
use Rattle.std.specs.Prelude.{◌≡◌, ℕ, zero, suc, ◌+◌, ◌-◌, ◌*◌, ◌<◌, List, [], ◌∷◌, ◌++◌, Option, Some, None}
use Rattle.std.specs.Prelude.{slice_index_or, slice_set}
use Rattle.std.specs.Prelude.{nat_lt, if◌then◌else◌, false, IfSome, length}
use Rattle.container_core.specs.Chunks.{chunks}
use Rattle.container_core.specs.Container.{size_in}
use Rattle.container_core.specs.Stream.{stream, stream_by}
use Rattle.io_core.specs.Streams.{Appends, AppendsFront, LacksSome}
use Rattle.output_core.specs.Bounds.{Admits, Bound}
use Rattle.sealing_core.specs.declared.early.Early.{Early}
use Rattle.sealing_core.specs.declared.line.Hand.{Hand}
use Rattle.sealing_core.specs.declared.piece.Piece.{Piece}
use Rattle.sealing_core.specs.Pieces.{block, IsPiece}
use Rattle.sealing_core.specs.Hands.{times}

-- the piece put in its place, if the first place is for the number `written`
abbrev pub placed : ℕ → List (Option Piece) → Piece → List (Option Piece)
placed written places p = if nat_lt p.number written then places else slice_set places (p.number - written) (Some p)

-- n places with no piece
abbrev pub empty : ℕ → List (Option Piece)
empty zero = []
empty (suc n) = None ∷ empty n

-- each piece is in its place, and is of the input
abbrev pub AreKept : ℕ → List ℕ → List ℕ → Option (List ℕ) → ℕ → List (Option Piece) → Type 0
AreKept each key header told written places = (k : ℕ) (p : Piece) → slice_index_or places k None ≡ Some p
    → (p.number ≡ written + k) × IsPiece each key header told p

-- what is written once these bytes are sealed in full chunks, none of which is the last; nothing if there are none
abbrev pub chunks_so_far : List ℕ → List ℕ → List ℕ → List ℕ → List ℕ
chunks_so_far front key header [] = []
chunks_so_far front key header (byte ∷ bytes) = front
    ++ stream_by key header 0 false (chunks (size_in header) (byte ∷ bytes))

-- `front`, then STREAM of the input's chunks
abbrev pub behind : List ℕ → List ℕ → List ℕ → List ℕ → List ℕ
behind front key header input = front ++ stream key header 0 (chunks (size_in header) input)

-- what is written before a block of this number
abbrev pub front_at : List ℕ → ℕ → List ℕ
front_at front zero = front
front_at front (suc number) = []

-- the input begins with `past`, and goes on after it unless `past` is empty
abbrev pub Follows : List ℕ → List ℕ → Type 0
Follows past input = (rest : List ℕ) × (input ≡ past ++ rest) × (0 < length past → 0 < length rest)

-- the first `written` full blocks were written, and `front` before them
pub record AreWritten (each : ℕ) (front key header : List ℕ) (told taken taken' : Option (List ℕ)) (written : ℕ)
    : Type 0 where
  pub past : List ℕ
  pub long : length past ≡ written * block each header
  pub of : IfSome told (Follows past)
  pub grown : Appends taken taken' (chunks_so_far front key header past)

-- a front of all that is written of the input was written, or of some plaintext if the input is unknown
abbrev pub HasBegun : List ℕ → List ℕ → List ℕ → Option (List ℕ) → Option (List ℕ) → Option (List ℕ) → Type 0
HasBegun front key header told taken taken' = (plain : List ℕ) × IfSome told (λ input. input ≡ plain)
    × AppendsFront taken taken' (behind front key header plain)

-- the same, but not all of it
abbrev pub IsCutOff : List ℕ → List ℕ → List ℕ → Option (List ℕ) → Option (List ℕ) → Option (List ℕ) → Type 0
IsCutOff front key header told taken taken' = (plain : List ℕ) × IfSome told (λ input. input ≡ plain)
    × AppendsFront taken taken' (behind front key header plain) × LacksSome taken taken' (behind front key header plain)

-- the first `written` full blocks were written after what the output had taken at first. Whatever the input turns out
-- to be, the output may take all that is written of it
pub record MayGoOn (each : ℕ) (front key header : List ℕ) (told : Option (List ℕ)) (bound : Option Bound)
    (taken' : Option (List ℕ)) (written : ℕ) : Type 0 where
  pub taken : Option (List ℕ)
  pub sofar : AreWritten each front key header told taken taken' written
  pub all : (plain : List ℕ) → Admits bound taken (behind front key header plain)

-- the numbers below n, in order
abbrev pub below : ℕ → List ℕ
below zero = []
below (suc n) = below n ++ n ∷ []

-- each number below n was taken back, or done by the caller's thread
abbrev pub IsSeen : ℕ → List ℕ → List ℕ → Type 0
IsSeen n mine back = (x : ℕ) → x < n → 0 < times x mine + times x back

-- so was each number that was written, and each that is kept
pub record HasSeen (written : ℕ) (places : List (Option Piece)) (mine back : List ℕ) : Type 0 where
  pub behind : IsSeen written mine back
  pub kept : (k : ℕ) (p : Piece) → slice_index_or places k None ≡ Some p
      → 0 < times p.number mine + times p.number back

-- `blocks` full blocks were put once each as a job, and each that isn't written yet has its place
pub record IsOrdered (each : ℕ) (key header : List ℕ) (told : Option (List ℕ)) (blocks : ℕ) (early : Early)
    (jobs pieces : Hand) : Type 0 where
  pub put : jobs.put ≡ below blocks
  pub silent : pieces.put ≡ []
  pub count : early.written + length early.places.items ≡ blocks
  pub kept : AreKept each key header told early.written early.places.items
  pub seen : HasSeen early.written early.places.items jobs.taken pieces.taken
