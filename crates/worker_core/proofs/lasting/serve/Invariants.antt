-- The buffer in hand is empty.
use Rattle.std.proofs.Common.{◌≡◌, []}
use Rattle.worker_core.proofs.lasting.serve.Given as goal

abbrev pub invariant-loop : goal.invariant-loop
invariant-loop g l = l.hand.items ≡ []
