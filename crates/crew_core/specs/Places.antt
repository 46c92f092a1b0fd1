-- Inside: what the lanes of a batch have done, and how all of it is put in the order of the jobs.
use Rattle.std.specs.Prelude.{◌≡◌, ℕ, ◌<◌, List, [], ◌∷◌, ◌++◌, length, map, Some, slice_get, slice_index_or, All}
use Rattle.std.specs.Prelude.{Contains}
use Rattle.claim_core.specs.Claims.{times, once_below}
use Rattle.crew_core.specs.declared.outcome.Outcome.{Outcome}
use Rattle.crew_core.specs.declared.places.Done.{Done}
use Rattle.crew_core.specs.Batch.{seat_of, of_seat}

abbrev pub done_of : ℕ → Outcome → Done
done_of job outcome = record { job = job; outcome = outcome }

-- the numbers of jobs that are done, and their outcomes
abbrev pub jobs_of : List Done → List ℕ
jobs_of done = map (λ d. d.job) done

abbrev pub outcomes_of : List Done → List Outcome
outcomes_of done = map (λ d. d.outcome) done

-- what a lane has done, and for how many jobs it has room in all
pub record LanePlacesView : Type 0 where
  pub done : List Done
  pub room : ℕ

-- places beyond the last lane
abbrev pub no_places : LanePlacesView
no_places = record { done = []; room = 0 }

-- what the lane of this number has done
abbrev pub done_at : List LanePlacesView → ℕ → List Done
done_at places lane = (slice_index_or places lane no_places).done

-- the jobs that all lanes have done, lane by lane
abbrev pub all_jobs : List LanePlacesView → List ℕ
all_jobs [] = []
all_jobs (p ∷ ps) = jobs_of p.done ++ all_jobs ps

-- each number is greater than all before it
abbrev pub Ascends : List ℕ → Type 0
Ascends [] = Unit {0}
Ascends (x ∷ xs) = ((y : ℕ) → 0 < times y xs → x < y) × Ascends xs

-- together the lanes have drawn each of `jobs` jobs once, each lane in the order of their numbers; every outcome names
-- the seat of its lane
pub record AreDrawn (jobs : ℕ) (places : List LanePlacesView) : Type 0 where
  pub once : (x : ℕ) → times x (all_jobs places) ≡ once_below x jobs
  pub ascends : (lane : ℕ) → lane < length places → Ascends (jobs_of (done_at places lane))
  pub seat : (lane : ℕ) → lane < length places → All (λ d. seat_of d.outcome ≡ lane) (done_at places lane)

-- the first of these is the job of this number
abbrev pub BeginsWith : ℕ → List Done → Type 0
BeginsWith job [] = ⊥
BeginsWith job (d ∷ ds) = d.job ≡ job

-- some lane has done the job of this number, with this outcome
abbrev pub IsFrom : List LanePlacesView → ℕ → Outcome → Type 0
IsFrom places n o = (lane : ℕ) × (lane < length places) × Contains (done_at places lane) (done_of n o)

-- the outcomes of all jobs, in their order: from each lane those of the jobs that it did
pub record AreInOrder (jobs : ℕ) (places : List LanePlacesView) (out : List Outcome) : Type 0 where
  pub count : length out ≡ jobs
  pub each : (n : ℕ) (o : Outcome) → slice_get out n ≡ Some o → IsFrom places n o
  pub of : (lane : ℕ) → lane < length places → of_seat lane out ≡ outcomes_of (done_at places lane)
