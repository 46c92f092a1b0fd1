use Rattle.std.proofs.Common.{◌≡◌, ◌≤◌, length, All}
use Rattle.container_core.specs.declared.TheConstants.{MAX_PLAIN}
use Rattle.batch_tests.proofs.jobs.texts.Given as goal

abbrev pub invariant-loop-text : goal.invariant-loop-text
invariant-loop-text l = (length l.jobs.items ≡ l.text-index) × All (λ job. length job.items ≤ MAX_PLAIN) l.jobs.items
