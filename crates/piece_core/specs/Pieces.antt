-- Works, pieces and shelves, as contracts see them.
use Rattle.std.specs.Prelude.{◌≡◌, ℕ, ◌<◌, List, length, replicate, Option, Some, None, slice_index_or, slice_set}
use Rattle.piece_core.specs.declared.work.Kind.{Kind}

-- a piece of a work, whose container has this header: a chunk sealed or opened, or None where the chunk doesn't check
pub record PieceView : Type 0 where
  pub kind : Kind
  pub header : List ℕ
  pub number : ℕ
  pub value : Option (List ℕ)

-- a work is the header of its container and the values of its pieces, by their numbers
pub record WorkView : Type 0 where
  pub kind : Kind
  pub header : List ℕ
  pub values : List (Option (List ℕ))

-- a shelf has a place for each piece of a work, empty or filled
pub record ShelfView : Type 0 where
  pub kind : Kind
  pub header : List ℕ
  pub places : List (Option PieceView)

-- a work's piece of this number
abbrev pub piece_of_work : WorkView → ℕ → PieceView
piece_of_work w n = record { kind = w.kind; header = w.header; number = n; value = slice_index_or w.values n None }

-- the shelf of a work with all places empty
abbrev pub empty_shelf : WorkView → ShelfView
empty_shelf w = record { kind = w.kind; header = w.header; places = replicate (length w.values) None }

-- the piece has a place on the shelf: it is of the same kind and header, and its number is below the count
pub record HasPlaceFor (s : ShelfView) (p : PieceView) : Type 0 where
  pub kind : p.kind ≡ s.kind
  pub header : p.header ≡ s.header
  pub number : p.number < length s.places

-- what is on the piece's place
abbrev pub place_of : ShelfView → PieceView → Option PieceView
place_of s p = slice_index_or s.places p.number None

-- the shelf with the piece's place filled by it
abbrev pub with_piece : ShelfView → PieceView → ShelfView
with_piece s p = record { kind = s.kind; header = s.header; places = slice_set s.places p.number (Some p) }
