-- What workers do on their benches in a round.
use Rattle.std.specs.Prelude.{◌≡◌, ℕ, ◌+◌, ◌<◌, ◌≤◌, List, [], ◌∷◌, length, map, All}
use Rattle.claim_core.specs.Claims.{ClaimsView, ClaimantView, IsOf}
use Rattle.worker_core.specs.Parts.{room_of}
use Rattle.worker_core.specs.Pieces.{times, number_of, IsPiece}
use Rattle.worker_core.specs.Views.{RoundView, MadeView, BenchView}

-- a bench has room for all pieces of a round, and none are on it
pub record IsReady (round : RoundView) (bench : BenchView) : Type 0 where
  pub size : room_of round.task round.size ≤ bench.size
  pub spare : length round.values ≤ bench.spare
  pub made : bench.made ≡ []

-- what a worker left on its bench: pieces of the round, in buffers that were spare
pub record IsWorked (round : RoundView) (old new : BenchView) : Type 0 where
  pub pieces : All (IsPiece round) new.made
  pub size : new.size ≡ old.size
  pub spare : new.spare + length new.made ≡ old.spare

-- the same of each of several workers
abbrev pub AreWorked : RoundView → List BenchView → List BenchView → Type 0
AreWorked round [] [] = Unit {0}
AreWorked round [] (new ∷ news) = ⊥
AreWorked round (old ∷ olds) [] = ⊥
AreWorked round (old ∷ olds) (new ∷ news) = IsWorked round old new × AreWorked round olds news

-- the claimant represents `count` workers, which drew these numbers, and each met the end
pub record HasDrawn (claims : ClaimsView) (count : ℕ) (numbers : List ℕ) (claimant : ClaimantView) : Type 0 where
  pub ours : IsOf claims claimant
  pub workers : claimant.workers ≡ count
  pub drawn : claimant.drawn ≡ numbers
  pub ends : claimant.ends ≡ count

-- the word of a round of `pieces` pieces, from which `workers` workers draw
pub record WordView : Type 0 where
  pub pieces : ℕ
  pub workers : ℕ

abbrev pub word_of : ℕ → ℕ → WordView
word_of pieces workers = record { pieces = pieces; workers = workers }

-- a crew, as its callers see it: its workers, how many pieces each can make, the bytes of each buffer, and the pieces
-- made and not yet put in their places
pub record CrewView : Type 0 where
  pub workers : ℕ
  pub room : ℕ
  pub size : ℕ
  pub made : List MadeView

-- each bench has buffers for `room` pieces, each of `size` bytes
abbrev pub IsOfCrew : ℕ → ℕ → BenchView → Type 0
IsOfCrew room size bench = (bench.size ≡ size) × (bench.spare + length bench.made ≡ room)

-- a crew without pieces: a round may begin
abbrev pub idle : ℕ → ℕ → ℕ → CrewView
idle workers room size = record { workers = workers; room = room; size = size; made = [] }

-- all pieces of a round were made, and no other
pub record HasMade (round : RoundView) (made : List MadeView) : Type 0 where
  pub pieces : All (IsPiece round) made
  pub all : (x : ℕ) → x < length round.values → 0 < times x (map number_of made)
