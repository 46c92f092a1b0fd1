-- The jobs so far are sealed and written.
use Rattle.std.proofs.Common.{◌≡◌, ◌+◌, ℕ, length}
use Rattle.sealing_core.specs.Order.{AreWritten}
use Rattle.sealing_core.specs.Round.{AreJobs, IsLast}
use Rattle.sealing_core.proofs.rounds.alone.Given as goal

abbrev pub invariant-jobs : goal.invariant-jobs
invariant-jobs g l = record {
  number : ℕ;
  count : number + length l.round.held.items ≡ length l.initial.round.held.items;
  jobs : AreJobs g.N.Naming.each g.N.Naming.header g.N.Naming.told number l.round.held.items;
  last : IsLast g.N.Naming.each g.N.Naming.key g.N.Naming.header g.N.Naming.told (length l.initial.round.held.items) l.round;
  same : l.round.intake ≡ l.initial.round.intake;
  written : AreWritten g.N.Naming.each l.context.front.now g.N.Naming.key g.N.Naming.header g.N.Naming.told (g.W.Output.taken l.initial.writer) (g.W.Output.taken l.writer) number;
  bound : g.W.Output.bound l.writer ≡ g.W.Output.bound l.initial.writer;
  refusals : g.W.Output.failures l.writer ≡ g.W.Output.failures l.initial.writer;
}

abbrev pub decreases-jobs : goal.decreases-jobs
decreases-jobs g l = length l.round.held.items
