-- The workers of an opening.
use Rattle.std.specs.Prelude.{ℕ, ◌+◌, ◌<◌, ◌≤◌, length}
use Rattle.claim_core.specs.declared.TheConstants.{MAX_WORKERS}
use Rattle.opening_core.specs.declared.workers.Workers.{Workers}

-- how many they are, with the caller's thread
abbrev pub worker_count : Workers → ℕ
worker_count (Workers.ToStart count) = count
worker_count (Workers.Running boxes) = length boxes.now + 1

-- they are 1 to 16
abbrev pub AreWorkers : Workers → Type 0
AreWorkers workers = (0 < worker_count workers) × (worker_count workers ≤ MAX_WORKERS)
