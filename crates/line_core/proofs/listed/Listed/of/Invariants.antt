use Rattle.std.proofs.Common.{length}
use Rattle.line_core.proofs.listed.Listed.of.Given as goal

abbrev pub decreases-lines : goal.decreases-lines
decreases-lines l = length l.rest
