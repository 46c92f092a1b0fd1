use Rattle.std.proofs.Common.{refl}
use Rattle.command_core.specs.Unpiping.{IsOfUnpiping}
use Rattle.sealer.proofs.Statuses.{moved, of_line}
use Rattle.sealer.proofs.unpiping.unpipe_to.Goals as goal

pub returns : goal.returns
returns g c = record {
  status =
      let (outcome, kept, told) = c.unpipe_out-status.ensures.run in
      moved (λ name. IsOfUnpiping (g.O.Write.contents c.args.streams.output.0) (g.O.Write.contents c.unpipe_out-status.result.1.0))
      _ _ _ _ _ _ _ refl refl refl
      (of_line (λ name. IsOfUnpiping (g.O.Write.contents c.args.streams.output.0) (g.O.Write.contents c.unpipe_out-status.result.1.0))
      _ _ _ _ _ _ kept told);
}
