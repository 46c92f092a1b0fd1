-- A block is no longer than at first.
use Rattle.std.proofs.Common.{◌*◌, ◌≤◌}
use Rattle.sealing_core.proofs.rounds.each_of.Given as goal

abbrev pub invariant-fewer : goal.invariant-fewer
invariant-fewer l = l.each * l.size ≤ 65536

abbrev pub decreases-fewer : goal.decreases-fewer
decreases-fewer l = l.each
