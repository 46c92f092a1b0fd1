-- What one thread makes of a whole work: the pieces joined in the order of their numbers, or the first that doesn't
-- check.
use Rattle.std.specs.Prelude.{◌≡◌, ◌≢◌, ℕ, ◌<◌, List, [], ◌++◌, length, Option, Some, None, map}
use Rattle.std.specs.Prelude.{slice_index_or, Result, Ok, Err}
use Rattle.worker_core.specs.Answer.{answer}
use Rattle.piece_core.specs.declared.work.Kind.{Kind}
use Rattle.piece_core.specs.declared.work.Kind.TheVariants.{Sealing, Opening}
use Rattle.piece_core.specs.Pieces.{PieceView, WorkView, ShelfView, piece_of_work}

-- what comes before the pieces: the header of a container, and nothing before a plaintext
abbrev pub bytes_before : Kind → List ℕ → List ℕ
bytes_before Sealing header = header
bytes_before Opening header = []

abbrev pub after_front : List ℕ → Result (List ℕ) ℕ → Result (List ℕ) ℕ
after_front front (Ok rest) = Ok (front ++ rest)
after_front front (Err n) = Err n

-- what one thread makes of a work
abbrev pub whole_of : WorkView → Result (List ℕ) ℕ
whole_of w = after_front (bytes_before w.kind w.header) (answer w.values)

-- the value at a place, if there is one
abbrev pub value_in : Option PieceView → Option (List ℕ)
value_in None = None
value_in (Some p) = p.value

-- the same for the pieces on a shelf
abbrev pub shelf_whole : ShelfView → Result (List ℕ) ℕ
shelf_whole s = after_front (bytes_before s.kind s.header) (answer (map value_in s.places))

-- no place is empty
abbrev pub IsFull : ShelfView → Type 0
IsFull s = (n : ℕ) → n < length s.places → slice_index_or s.places n None ≢ None

-- some place is empty
pub record HasGap (s : ShelfView) : Type 0 where
  pub at : ℕ
  pub below : at < length s.places
  pub empty : slice_index_or s.places at None ≡ None

-- the shelf is one of this work, and each place is empty or has the work's piece of its number
pub record IsShelfOf (w : WorkView) (s : ShelfView) : Type 0 where
  pub kind : s.kind ≡ w.kind
  pub header : s.header ≡ w.header
  pub count : length s.places ≡ length w.values
  pub each : (n : ℕ) → slice_index_or s.places n None ≢ None → slice_index_or s.places n None ≡ Some (piece_of_work w n)
