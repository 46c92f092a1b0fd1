use Rattle.std.proofs.Common.{subst}
use Rattle.command_core.specs.Unpiping.{IsOfUnpiping}
use Rattle.sealer.proofs.unpiping.unpipe_out.Goals as goal

pub returns : goal.returns
returns g c = record {
  run =
      let (outcome, done, told) = c.unpipe_from-status.ensures.run in
      let kept = subst (λ stream. IsOfUnpiping (g.W.Sink.taken stream.writer) (g.W.Sink.taken c.unpipe_from-status.new.folder.stream.writer) outcome) c.of-both.ensures.stream done.kept in
      (outcome, kept, told);
}
