use Rattle.std.proofs.Common.{length}
use denote.Text.{Utf8}
use denote.Shadow.{shadow}
use Rattle.system_files.proofs.folders.take_steps.Given as goal

abbrev pub invariant-steps : goal.invariant-steps
invariant-steps g l = shadow (Utf8 l.rest)

abbrev pub decreases-steps : goal.decreases-steps
decreases-steps g l = length l.rest
