-- Inside: what all lanes of a batch share, and what one lane leaves.
use Rattle.std.specs.Prelude.{◌≡◌, ℕ, ◌+◌, ◌<◌, ◌≤◌, List, [], ◌∷◌, ◌++◌, length, slice_index_or, All}
use Rattle.container_core.specs.declared.TheConstants.{MAX_PLAIN}
use Rattle.container_core.specs.Shape.{ShapeView}
use Rattle.journal_core.specs.History.{Begins}
use Rattle.ledger_core.specs.Shared.{LedgerId, SeatView, IsSameSeat}
use Rattle.claim_core.specs.Claims.{ClaimsView, ClaimantView}
use Rattle.crew_core.specs.declared.TheConstants.{MAX_JOBS}
use Rattle.crew_core.specs.declared.outcome.Outcome.{Outcome}
use Rattle.crew_core.specs.declared.places.Done.{Done}
use Rattle.crew_core.specs.Batch.{seat_of, issues, IsOutcome, IsAt}
use Rattle.crew_core.specs.Places.{LanePlacesView, Ascends, done_at, jobs_of, outcomes_of}

-- what all lanes share: the claims are on the numbers of the jobs, and the lanes are their workers
pub record BatchView : Type 0 where
  pub key : List ℕ
  pub shape : ShapeView
  pub ledger : LedgerId
  pub jobs : List (List ℕ)
  pub claims : ClaimsView

abbrev pub batch_of : List ℕ → ShapeView → LedgerId → List (List ℕ) → ClaimsView → BatchView
batch_of key shape ledger jobs claims =
    record { key = key; shape = shape; ledger = ledger; jobs = jobs; claims = claims }

-- at most 65,535 jobs, each of at most 2^40 bytes; their numbers are those that are claimed
pub record IsBatch (batch : BatchView) : Type 0 where
  pub few : length batch.jobs ≤ MAX_JOBS
  pub short : All (λ job. length job ≤ MAX_PLAIN) batch.jobs
  pub count : batch.claims.count ≡ length batch.jobs

abbrev pub claimant_of : ClaimsView → ℕ → List ℕ → ℕ → ClaimantView
claimant_of claims workers drawn ends =
    record { id = claims.id; count = claims.count; workers = workers; drawn = drawn; ends = ends }

-- the claimant of `lanes` lanes that have drawn these jobs and have all ended
abbrev pub ended : ClaimsView → ℕ → List ℕ → ClaimantView
ended claims lanes drawn = claimant_of claims lanes drawn lanes

-- what one job does to its lane's seat
pub record IsLaneStep (key : List ℕ) (shape : ShapeView) (job : List ℕ) (lane : ℕ)
    (old new : SeatView) (o : Outcome) : Type 0 where
  pub outcome : IsOutcome key shape job o
  pub seat : seat_of o ≡ lane
  pub stands : IsAt new o
  pub mine : new.mine ≡ old.mine ++ issues old.number (o ∷ [])
  pub seen : Begins old.seen new.seen
  pub same : IsSameSeat old new

-- a job that a lane has done, and its outcome, which names the lane's seat; what it says of the seat holds by now
pub record IsDone (batch : BatchView) (lane : ℕ) (now : SeatView) (d : Done) : Type 0 where
  pub outcome : IsOutcome batch.key batch.shape (slice_index_or batch.jobs d.job []) d.outcome
  pub seat : seat_of d.outcome ≡ lane
  pub stands : IsAt now d.outcome

-- what a lane has done so far, in the order of the jobs' numbers, and its seat by then
pub record IsLaneWorked (batch : BatchView) (lane : ℕ) (old new : SeatView) (done : List Done) : Type 0 where
  pub each : All (IsDone batch lane new) done
  pub ascends : Ascends (jobs_of done)
  pub mine : new.mine ≡ old.mine ++ issues old.number (outcomes_of done)
  pub seen : Begins old.seen new.seen
  pub same : IsSameSeat old new

-- the places of a lane before its first job: there is room for all jobs
abbrev pub AreFree : BatchView → LanePlacesView → Type 0
AreFree batch places = (places.done ≡ []) × (length batch.jobs ≤ places.room)

-- `count` seats with their places, before the first lane starts
pub record AreReady (batch : BatchView) (count : ℕ) (seats : List SeatView) (places : List LanePlacesView) : Type 0 where
  pub seats_count : length seats ≡ count
  pub places_count : length places ≡ count
  pub ours : All (λ seat. seat.ledger ≡ batch.ledger) seats
  pub free : All (AreFree batch) places

-- the lanes from `from` on, each with the seat and the places at its number less `from`
pub record AreLanes (batch : BatchView) (from : ℕ) (old new : List SeatView) (places : List LanePlacesView) : Type 0 where
  pub seats_count : length new ≡ length old
  pub places_count : length places ≡ length old
  pub each : (i : ℕ) (d : SeatView) → i < length old
      → IsLaneWorked batch (from + i) (slice_index_or old i d) (slice_index_or new i d) (done_at places i)
