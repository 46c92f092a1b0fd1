-- Inside: how many chunks a round has, and when a crew can make one.
use Rattle.std.specs.Prelude.{◌≡◌, ℕ, ◌/◌, ◌≤◌, []}
use Rattle.worker_core.specs.declared.round.Task.{Task}
use Rattle.worker_core.specs.Parts.{room_of}
use Rattle.worker_core.specs.Views.{PlacesView}
use Rattle.worker_core.specs.Crew.{CrewView}
use Rattle.crew_core.specs.declared.rounds.TheConstants.{ROUND}

-- how many chunks of this size a round has that isn't the last
unfoldable pub round_count : ℕ → ℕ
round_count size = ROUND / size

-- a crew without pieces can make `pieces` pieces of a task, of chunks of this size, and the places take them
pub record CanMake (task : Task) (size pieces : ℕ) (crew : CrewView) (places : PlacesView) : Type 0 where
  pub idle : crew.made ≡ []
  pub room : room_of task size ≤ crew.size
  pub sizes : places.size ≡ crew.size
  pub rooms : (pieces ≤ crew.room) × (pieces ≤ places.room)
