-- The buffers so far were written, no call failed, and the others may follow.
use Rattle.std.proofs.Common.{◌≡◌, take, drop, flat_map}
use Rattle.io_core.specs.Streams.{Appends}
use Rattle.output_core.specs.Bounds.{Admits}
use Rattle.output_core.proofs.parts.put_each.Given as goal

abbrev pub invariant-putting : goal.invariant-putting
invariant-putting g l = record {
  appended : Appends (g.W.Output.taken l.fn.output) (g.W.Output.taken l.output) (flat_map (λ b. b.items) (take l.n l.buffers));
  failures : g.W.Output.failures l.output ≡ g.W.Output.failures l.fn.output;
  bound : g.W.Output.bound l.output ≡ g.W.Output.bound l.fn.output;
  may : Admits (g.W.Output.bound l.output) (g.W.Output.taken l.output) (flat_map (λ b. b.items) (drop l.n l.buffers));
}
