-- The pieces made so far, and no other.
use Rattle.std.proofs.Common.{◌≡◌, ◌<◌, ℕ, length, map}
use Rattle.claim_core.specs.Claims.{times}
use Rattle.worker_core.specs.Pieces.{number_of}
use Rattle.worker_core.specs.Crew.{IsWorked}
use Rattle.worker_core.proofs.workers.work_alone.Given as goal

abbrev pub invariant-making : goal.invariant-making
invariant-making g l = record {
  all : (n : ℕ) → n < l.number → 0 < times n (map number_of l.bench.made);
  count : length l.bench.made ≡ l.number;
  worked : IsWorked l.round l.fn.bench l.bench;
}
