use Rattle.std.proofs.Common.{length}
use Rattle.line_core.proofs.totals.+push_counts.Given as goal

abbrev pub decreases-push_counts : goal.decreases-push_counts
decreases-push_counts l = length l.counts.now
