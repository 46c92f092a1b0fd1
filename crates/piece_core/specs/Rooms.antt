-- Inside: the whole that pieces are joined to, and what a place of a shelf holds.
use Rattle.std.specs.Prelude.{◌≡◌, ◌≢◌, ℕ, ◌+◌, ◌<◌, List, [], ◌∷◌, ◌++◌, length, map, Option, Some, None, slice_index_or}
use Rattle.worker_core.specs.Answer.{first_refused}
use Rattle.piece_core.specs.declared.work.Kind.{Kind}
use Rattle.piece_core.specs.declared.shelf.ShelfPlace.{ShelfPlace}
use Rattle.piece_core.specs.declared.shelf.ShelfPlace.TheVariants.{Empty, Forged, Here, Apart}
use Rattle.piece_core.specs.Pieces.{PieceView, ShelfView}
use Rattle.piece_core.specs.Answer.{value_in, IsFull}

-- what comes before the pieces, and a part for each of them
pub record RoomView : Type 0 where
  pub front : List ℕ
  pub parts : List (List ℕ)

-- the parts joined
abbrev pub all_of : List (List ℕ) → List ℕ
all_of [] = []
all_of (part ∷ rest) = part ++ all_of rest

abbrev pub piece_at : Kind → List ℕ → ℕ → Option (List ℕ) → PieceView
piece_at kind header n value = record { kind = kind; header = header; number = n; value = value }

-- the piece at a place, if there is one, where this is its part of the whole
abbrev pub shown_piece : Kind → List ℕ → ℕ → ShelfPlace → List ℕ → Option PieceView
shown_piece kind header n Empty part = None
shown_piece kind header n Forged part = Some (piece_at kind header n None)
shown_piece kind header n Here part = Some (piece_at kind header n (Some part))
shown_piece kind header n (Apart bytes) part = Some (piece_at kind header n (Some bytes.items))

-- the pieces at all places from a number on
unfoldable pub pieces_from : Kind → List ℕ → ℕ → List ShelfPlace → List (List ℕ) → List (Option PieceView)
pieces_from kind header n [] parts = []
pieces_from kind header n (place ∷ rest) parts =
    shown_piece kind header n place (slice_index_or parts n []) ∷ pieces_from kind header (n + 1) rest parts

-- the shelf with these places, over a whole of these parts
abbrev pub shelf_of : Kind → List ℕ → List ShelfPlace → List (List ℕ) → ShelfView
shelf_of kind header places parts =
    record { kind = kind; header = header; places = pieces_from kind header 0 places parts }

-- the bytes that a place holds, if it holds any
abbrev pub held : ShelfPlace → List ℕ → List ℕ
held Empty part = []
held Forged part = []
held Here part = part
held (Apart bytes) part = bytes.items

-- the bytes of all places from a number on
abbrev pub held_from : ℕ → List ShelfPlace → List (List ℕ) → List ℕ
held_from n [] parts = []
held_from n (place ∷ rest) parts = held place (slice_index_or parts n []) ++ held_from (n + 1) rest parts

-- no piece is there, or it doesn't check
abbrev pub IsWithout : ShelfPlace → Type 0
IsWithout Empty = Unit {0}
IsWithout Forged = Unit {0}
IsWithout Here = ⊥
IsWithout (Apart bytes) = ⊥

-- every place has bytes
abbrev pub AllHaveBytes : List ShelfPlace → Type 0
AllHaveBytes places = (n : ℕ) → n < length places → IsWithout (slice_index_or places n Empty) → ⊥

-- the first place without bytes
pub record IsFirstWithout (places : List ShelfPlace) (n : ℕ) : Type 0 where
  pub below : n < length places
  pub without : IsWithout (slice_index_or places n Empty)
  pub before : (k : ℕ) → k < n → IsWithout (slice_index_or places k Empty) → ⊥

-- every piece of the shelf is there and checks
abbrev pub AllCheck : ShelfView → Type 0
AllCheck s = IsFull s × (first_refused (map value_in s.places) ≡ None)

-- a place shows this value, and the parts of the other places stay
pub record KeepsPiece (old new : List (List ℕ)) (n : ℕ) (value : Option (List ℕ)) (place : ShelfPlace) : Type 0 where
  pub shows : (kind : Kind) (header : List ℕ) (m : ℕ)
      → shown_piece kind header m place (slice_index_or new n []) ≡ Some (piece_at kind header m value)
  pub others : (m : ℕ) → m ≢ n → slice_index_or new m [] ≡ slice_index_or old m []
  pub count : length new ≡ length old
