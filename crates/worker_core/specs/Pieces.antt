-- The pieces of a round, and the benches on which they were made.
pub use Rattle.claim_core.specs.Claims.{times}
use Rattle.std.specs.Prelude.{◌≡◌, ℕ, ◌+◌, ◌<◌, List, [], ◌∷◌, ◌++◌, length, map, None}
use Rattle.std.specs.Prelude.{slice_index_or}
use Rattle.worker_core.specs.Views.{RoundView, MadeView, BenchView}

abbrev pub number_of : MadeView → ℕ
number_of piece = piece.number

-- the round's piece of a number
abbrev pub piece_of : RoundView → ℕ → MadeView
piece_of round n = record { number = n; value = slice_index_or round.values n None }

-- the piece is the round's piece of its number
pub record IsPiece (round : RoundView) (piece : MadeView) : Type 0 where
  pub below : piece.number < length round.values
  pub value : piece.value ≡ slice_index_or round.values piece.number None

-- the pieces of all benches
abbrev pub all_made : List BenchView → List MadeView
all_made [] = []
all_made (bench ∷ benches) = bench.made ++ all_made benches

-- each number of the round's pieces is that of a piece on one of the benches
pub record Covers (round : RoundView) (benches : List BenchView) : Type 0 where
  pub each : (x : ℕ) → x < length round.values → 0 < times x (map number_of (all_made benches))

-- a bench whose pieces were taken: the buffers in which they were made are spare again
abbrev pub emptied : BenchView → BenchView
emptied bench = record { size = bench.size; spare = bench.spare + length bench.made; made = [] }
