-- The interrupted writes wrote nothing.
use Rattle.io_core.specs.Streams.{Keeps}
use Rattle.io_core.proofs.adapter.ToWriteSink.write.Given as goal

abbrev pub invariant-loop : goal.invariant-loop
invariant-loop g l = Keeps (g.W.Write.contents l.initial.self.0) (g.W.Write.contents l.self.0)
