-- Internal: what benches and places hold.
use Rattle.std.specs.Prelude.{◌≡◌, ℕ, ◌+◌, ◌≤◌, List, [], ◌∷◌, ◌++◌, Option, Some, None, All, if◌then◌else◌}
use Rattle.std.specs.Prelude.{slice_set, vec_len, vec_capacity}
use Rattle.worker_core.specs.declared.piece.Piece.{Piece}
use Rattle.worker_core.specs.declared.piece.Made.{Made}
use Rattle.worker_core.specs.declared.bench.Bench.TheInside.{Inside as Bench}
use Rattle.worker_core.specs.declared.places.Places.TheInside.{Inside as Places}
use Rattle.worker_core.specs.Views.{MadeView, BenchView}

-- the bytes of a piece, if it checks
abbrev pub shown : Piece → Option (List ℕ)
shown piece = if piece.checks then Some piece.bytes.items else None

abbrev pub made_view : Made → MadeView
made_view made = record { number = made.number; value = shown made.piece }

-- the buffer of a piece has room for `size` bytes
abbrev pub HasRoom : ℕ → Piece → Type 0
HasRoom size piece = size ≤ vec_capacity piece.bytes

-- spare buffers are empty, each buffer has room for a piece, and both lists have room for all buffers
pub record IsBench (bench : Bench) : Type 0 where
  pub empty : All (λ buffer. buffer.items ≡ []) bench.spare.items
  pub spare : All (λ buffer. bench.size ≤ vec_capacity buffer) bench.spare.items
  pub made : All (λ made. HasRoom bench.size made.piece) bench.made.items
  pub room : vec_len bench.spare + vec_len bench.made ≤ vec_capacity bench.spare
  pub list : vec_len bench.spare + vec_len bench.made ≤ vec_capacity bench.made

-- each place has room for a piece, and there are as many as are taken
pub record IsPlaces (places : Places) : Type 0 where
  pub room : All (HasRoom places.size) places.pieces.items
  pub count : places.count ≤ vec_len places.pieces

-- these pieces put in their places, the last of them first
abbrev pub placed : List MadeView → List (Option (List ℕ)) → List (Option (List ℕ))
placed [] values = values
placed (made ∷ rest) values = slice_set (placed rest values) made.number made.value

-- a bench put its last piece in its place
pub record IsPutLast (old new : BenchView) (before after : List (Option (List ℕ))) : Type 0 where
  pub last : MadeView
  pub made : old.made ≡ new.made ++ last ∷ []
  pub spare : new.spare ≡ old.spare + 1
  pub size : new.size ≡ old.size
  pub values : after ≡ slice_set before last.number last.value
