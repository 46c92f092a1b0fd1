use Rattle.std.proofs.Common.{◌≡◌, map, take, None}
use Rattle.worker_core.specs.Answer.{first_refused}
use Rattle.worker_core.specs.Rooms.{shown}
use Rattle.worker_core.proofs.places.Places.first_refused.Given as goal

abbrev pub invariant-loop-n : goal.invariant-loop-n
invariant-loop-n l = first_refused (take l.n (map shown l.self-inside.pieces.items)) ≡ None
