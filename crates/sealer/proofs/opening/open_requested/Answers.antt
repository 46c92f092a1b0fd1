use Rattle.std.proofs.Common.{map, option_map, rules, subst}
use Rattle.sealer.specs.declared.OverFiles.TheVariants.{Read}
use Rattle.sealer.specs.Status.{IsOfCommand, IsOfReading, IsStatusOf}
use Rattle.sealer.proofs.Statuses.{all_kept, no_items, weaker, with_kept}
use Rattle.sealer.proofs.opening.open_requested.Goals as goal

pub returns-then-is_empty : goal.returns-then-is_empty
returns-then-is_empty g c =
    let (kept, split, none, printed) = c.in-Ok-worked_of.ensures.kept in
    record {
      status = all_kept (IsOfCommand (Read c.args.reading) c.args.matches.now) c.args.matches.now c.in-Ok.request.skip _ kept
          (map (λ name. name.now) c.in-Ok-worked_of.files.items) _ _ c.in-Ok.ensures.skip split none printed
          (no_items (λ name. name.now) c.in-Ok-worked_of.files.items (search rules));
    }

pub returns : goal.returns
returns g c =
    let (kept, split, none, printed) = c.in-Ok-worked_of.ensures.kept in
    let show = c.in-Ok.request.show in
    let to = option_map (λ to. to.now) c.in-Ok.request.to in
    let of = subst
    (λ files. IsStatusOf (IsOfReading c.args.reading show to) c.open_to.result.0 (map (λ name. name.now) files) (g.O.Write.contents c.worked_of.new.lines.0)
    (g.O.Write.contents c.open_to.result.1.output.0)) c.as_slice.ensures.value c.open_to.ensures.status in
    let fits = weaker (IsOfReading c.args.reading show to) (IsOfCommand (Read c.args.reading) c.args.matches.now) c.open_to.result.0 _ _ _ (λ name outcome is. (show, c.in-Ok.ensures.show, subst (λ t. IsOfReading c.args.reading show t name outcome) c.in-Ok.ensures.to is)) of in
    record {
      status = with_kept (IsOfCommand (Read c.args.reading) c.args.matches.now) c.args.matches.now c.in-Ok.request.skip c.open_to.result.0 _ kept _ _ _ _ c.in-Ok.ensures.skip split none printed fits;
    }
