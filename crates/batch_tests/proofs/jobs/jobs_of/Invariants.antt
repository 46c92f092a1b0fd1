use Rattle.std.proofs.Common.{◌≡◌, ◌≤◌, length, All}
use Rattle.container_core.specs.declared.TheConstants.{MAX_PLAIN}
use Rattle.batch_tests.proofs.jobs.jobs_of.Given as goal

abbrev pub invariant-loop-n : goal.invariant-loop-n
invariant-loop-n l = (length l.jobs.items ≡ l.n) × All (λ job. length job.items ≤ MAX_PLAIN) l.jobs.items
