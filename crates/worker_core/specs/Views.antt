-- Rounds, pieces, benches and places, as contracts see them.
use Rattle.std.specs.Prelude.{ℕ, List, Option}
use Rattle.worker_core.specs.declared.round.Task.{Task}

-- a round: what is done to its chunks, their size, the number of the first, and what comes of each, in order; None for
-- a chunk that doesn't check
pub record RoundView : Type 0 where
  pub task : Task
  pub size : ℕ
  pub first : ℕ
  pub values : List (Option (List ℕ))

-- a piece that was made: its number within its round, from 0, and what came of the chunk
pub record MadeView : Type 0 where
  pub number : ℕ
  pub value : Option (List ℕ)

-- the room of one worker: how many bytes each of its buffers can hold, how many buffers are spare, and the pieces made
-- in the others, in the order of making
pub record BenchView : Type 0 where
  pub size : ℕ
  pub spare : ℕ
  pub made : List MadeView

-- the places of a round's pieces: how many bytes each can hold, how many places there are, and the values in those that
-- are taken, in order
pub record PlacesView : Type 0 where
  pub size : ℕ
  pub room : ℕ
  pub values : List (Option (List ℕ))
