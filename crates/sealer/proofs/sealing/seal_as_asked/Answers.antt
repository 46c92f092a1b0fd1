use Rattle.std.proofs.Common.{map, subst}
use Rattle.sealer_core.specs.Sealing.{IsOfSealing}
use Rattle.sealer.specs.declared.OverFiles.TheVariants.{Seal}
use Rattle.sealer.specs.Status.{IsOfCommand, IsStatusOf}
use Rattle.sealer.proofs.Statuses.{with_kept}
use Rattle.sealer.proofs.sealing.seal_as_asked.Goals as goal

pub returns : goal.returns
returns g c =
    let (kept, split, none, printed) = c.in-Ok-worked_of.ensures.kept in
    let of = subst
    (λ files. IsStatusOf (λ name. IsOfSealing) c.seal_to.result.0 (map (λ name. name.now) files) (g.O.Write.contents c.worked_of.new.lines.0)
    (g.O.Write.contents c.seal_to.result.1.output.0)) c.as_slice.ensures.value c.seal_to.ensures.status in
    record {
      status = with_kept (IsOfCommand Seal c.args.matches.now) c.args.matches.now c.in-Ok.request.skip c.seal_to.result.0 _ kept _ _ _ _ c.in-Ok.ensures.skip split none printed of;
    }
