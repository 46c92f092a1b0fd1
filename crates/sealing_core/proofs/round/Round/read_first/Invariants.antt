-- What was read of the first round.
use Rattle.std.proofs.Common.{◌≡◌, ◌+◌, ◌-◌, ◌<◌, ◌≤◌, true, cond, length, deque_capacity}
use Rattle.sealing_core.specs.Round.{IsInHand}
use Rattle.sealing_core.proofs.round.Round.read_first.Given as goal

abbrev pub invariant-first : goal.invariant-first
invariant-first g l = record {
  hand : IsInHand g.N.Naming.each g.N.Naming.key g.N.Naming.header g.N.Naming.told (g.R.Source.left l.reader) l.plan.limit 0 l.self;
  room : l.plan.group ≤ deque_capacity l.self.held;
  few : length l.self.held.items ≤ l.plan.group;
  over : l.self.intake.over ≡ true → length l.self.held.items < l.plan.group;
  failures : g.R.Source.failures l.reader ≡ g.R.Source.failures l.fn.reader;
}

abbrev pub decreases-first : goal.decreases-first
decreases-first g l = (l.plan.group - length l.self.held.items) + cond l.self.intake.ended 0 (cond l.self.intake.over 0 1)
