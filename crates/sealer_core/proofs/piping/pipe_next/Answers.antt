use Rattle.std.proofs.Common.{ap, arith, refl, rules, List, [], ◌∷◌, ◌∙◌, subst, sym}
use Rattle.journal_core.specs.declared.entry.Entry.{Entry}
use Rattle.journal_core.specs.declared.entry.Way.TheVariants as ended
use Rattle.folder_core.specs.Changes.{stream_name}
use Rattle.sealer_core.specs.Group.{piped_under}
use Rattle.sealer_core.specs.Sealing.{Accounts}
use Rattle.sealer_core.proofs.Keyed.{admits_container, inside_range, keyed_start, may_hold}
use Rattle.sealer_core.proofs.Numbering.{accounts_none, not_granted, spent_held}
use Rattle.sealer_core.proofs.Owing.{after_failure, after_fault, after_run}
use Rattle.sealer_core.proofs.Streams.{new_of, pipes, works_failed}
use Rattle.sealer_core.proofs.piping.pipe_next.Goals as goal

-- it has no number

pub returns-in-Err-clause-piped : goal.returns-in-Err-clause-piped
returns-in-Err-clause-piped g c =
    let none = subst (λ (l : List Entry). Accounts [] [] l) (sym c.requires.unused) accounts_none in
    record {
      voids = [];
      works = works_failed (piped_under c.args.context.now) _ _ c.in-Err.ensures.refused.0 c.in-Err.fault c.in-Err.ensures.refused.1;
      accounts = after_failure [] [] _ stream_name none _ _ (not_granted _ _ _ c.in-Err.ensures.refused.2);
    }

-- its container may begin

pub allow_container-requires : goal.allow_container-requires
allow_container-requires g c =
    let range = c.args.context.now.ledger.now.terms.range in
    let (device, granted, unsettled) = c.in-Ok.ensures.held ended.Void in
    record {
      may = rw c.number-number.ensures (may_hold c.args.context.now.key.now range _ c.in-Ok.grant.number _ [] _ c.chunk-chunk.ensures.shape
          (inside_range c.args.context.now.ledger.now c.issue_to_file.new.seat _ (c.in-Ok.ensures.same.terms ∙ c.requires.ours.1) c.in-Ok.ensures.knows (omega arith))
          refl (new_of _ _ c.requires.new) (keyed_start _ range [] _ c.requires.started));
    }

pub fill_stream-sealed-requires-clause-may : goal.fill_stream-sealed-requires-clause-may
fill_stream-sealed-requires-clause-may g c κs within =
    let range = c.args.context.now.ledger.now.terms.range in
    admits_container c.args.context.now.key.now range c.args.context.now.options.now.shape.now c.in-Ok.grant.number _ [] _ _ _ _ _
    (c.in-Ok.ensures.granted.1 ∙ ap (λ t. t.range.device) c.requires.ours.1) (new_of _ _ c.requires.new) (keyed_start _ range [] _ c.requires.started)
    (rw c.number-number.ensures at c.allow_container.ensures.allowed) c.allow_container.ensures.fresh

pub settle_of_file-requires-clause-held : goal.settle_of_file-requires-clause-held
settle_of_file-requires-clause-held g c =
    spent_held c.issue_to_file.new.seat _ c.in-Ok.grant _ c.fill_stream-sealed.ensures.sealed c.fill_stream-sealed.ensures.void c.in-Ok.ensures.held

-- how it ended

pub returns-in-Ok-sealed-clause-piped : goal.returns-in-Ok-sealed-clause-piped
returns-in-Ok-sealed-clause-piped g c =
    let none = subst (λ (l : List Entry). Accounts [] [] l) (sym c.requires.unused) accounts_none in
    record {
      voids = [];
      works = (
        refl,
        rw c.number-number.ensures (pipes (piped_under c.args.context.now) _ c.in-Ok.grant.number _ _ _ _ _ _ _ _ _ _ _ _ _ _ _ (c.a_stream_goes_on.ensures.kept _ _ _ _ _ _ _ _ c.allow_container.ensures.allowed c.requires.fresh c.allow_container.ensures.fresh c.allow_container.ensures.kept)
            (c.in-Ok.ensures.granted.1 ∙ ap (λ t. t.range.device) c.requires.ours.1)
            (rw c.number-number.ensures at c.allow_container.ensures.allowed) c.fill_stream-sealed.ensures.rest
            (rw c.in-Ok-sealed.is at c.fill_stream-sealed.ensures.pipes)),
      );
      accounts = after_run [] [] c.args.seat.now stream_name none _ _ c.in-Ok.grant c.fill_stream-sealed.result.1 c.in-Ok.ensures.granted.0 c.settle_of_file.ensures.settled
          _ _ (search rules) (search rules);
    }

pub returns-in-Err-sealed-clause-piped : goal.returns-in-Err-sealed-clause-piped
returns-in-Err-sealed-clause-piped g c =
    let none = subst (λ (l : List Entry). Accounts [] [] l) (sym c.requires.unused) accounts_none in
    record {
      voids = c.in-Ok.grant.number ∷ [];
      works = pipes (piped_under c.args.context.now) _ c.in-Ok.grant.number _ _ _ _ _ _ _ _ _ _ _ _ _ _ _ (c.a_stream_goes_on.ensures.kept _ _ _ _ _ _ _ _ c.allow_container.ensures.allowed c.requires.fresh c.allow_container.ensures.fresh c.allow_container.ensures.kept)
          (c.in-Ok.ensures.granted.1 ∙ ap (λ t. t.range.device) c.requires.ours.1)
          (rw c.number-number.ensures at c.allow_container.ensures.allowed) c.fill_stream-sealed.ensures.rest
          (rw c.in-Err-sealed.is at c.fill_stream-sealed.ensures.pipes);
      accounts = after_fault [] [] c.args.seat.now stream_name none _ _ c.in-Ok.grant c.fill_stream-sealed.result.1 c.in-Ok.ensures.granted.0 c.settle_of_file.ensures.settled
          _ (search rules);
    }
