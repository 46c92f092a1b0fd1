-- The number that was granted is held as that of an outcome, until it is settled.
use Rattle.std.proofs.Common.{◌≡◌, ◌∷◌, [], arith, nat_eq, ap, refl, set, subst, sym, ◌∙◌}
use Rattle.std.proofs.lemmas.Option.{slice_get-get_or}
use Rattle.ledger_core.specs.Shared.{spent_as}
use Rattle.journal_core.specs.declared.entry.Way.TheVariants as ended
use Rattle.crew_core.specs.declared.outcome.Outcome.{Outcome}
use Rattle.crew_core.specs.declared.outcome.Outcome.TheVariants as job
use Rattle.folder_core.specs.Record.{Created, Happened, Refused}
use Rattle.folder_core.specs.Changes.{new_output}
use Rattle.sealer_core.specs.Group.{IsEnding, IsKeyed, under_in, void_at}
use Rattle.sealer_core.specs.Sealing.{operations_of}
use Rattle.sealer_core.proofs.Keyed.{idle_keyed, keyed_abandoned, keyed_after, keyed_more}
use Rattle.sealer_core.proofs.Numbering.{not_granted, spent_number}
use Rattle.sealer_core.proofs.Owing.{adds_failure, ended_first, granted_held, granted_owing, let_go, owes_first, owing_rest, refusal_settles, refused_accounts_at, refused_owing, some_one}
use Rattle.sealer_core.proofs.SealedOutput.{admits_first, given_up_long, given_up_unissued, keyed_ended, may_first, new_at, refused_put, sealed_ends}
use Rattle.sealer_core.proofs.Waits.{however}
use Rattle.sealer_core.proofs.lane.put_sealed.Goals as goal

-- its output was refused

pub returns-in-Err-clause-keyed : goal.returns-in-Err-clause-keyed
returns-in-Err-clause-keyed g c = keyed_after _ _ _ (Happened (Refused c.args.output.now c.in-Err.fault)) _ _ (λ n. refl) c.requires.keyed c.in-Err.ensures.refused

pub returns-in-Err-clause-puts : goal.returns-in-Err-clause-puts
returns-in-Err-clause-puts g c = rw c.fault_of_create.ensures (
  [],
  refused_put (under_in c.args.context.now) _ _ c.in-Err.fault _ _ c.requires.known c.in-Err.ensures.refused,
  λ name lines voids a. adds_failure lines voids _ name a _,
)

-- its input was too long when it was opened

pub abandon-requires : goal.abandon-requires
abandon-requires g c = record {
  new = new_at _ _ _ _ (idle_keyed _ _ _ _ c.requires.keyed) c.in-Ok.ensures.place c.in-Ok.ensures.created;
}

pub returns-then-is_too_long-clause-keyed : goal.returns-then-is_too_long-clause-keyed
returns-then-is_too_long-clause-keyed g c =
    keyed_abandoned _ _ _ _ _ _ (keyed_after _ _ _ (Created (new_output c.args.output.now)) _ _ (λ n. refl) c.requires.keyed c.in-Ok.ensures.created) c.abandon.ensures.abandoned

pub returns-then-is_too_long-clause-puts : goal.returns-then-is_too_long-clause-puts
returns-then-is_too_long-clause-puts g c = (
  [],
  given_up_long (under_in c.args.context.now) _ _ _ _ _ _ (idle_keyed _ _ _ _ c.requires.keyed) c.in-Ok.ensures.place
      c.in-Ok.ensures.created c.abandon.ensures.abandoned c.requires.known (c.is_too_long.ensures c.if-is_too_long.true),
  λ name lines voids a. adds_failure lines voids _ name a _,
)

-- it has no number

pub issue_to_file-requires : goal.issue_to_file-requires
issue_to_file-requires g c = record {
  ours = (c.requires.owing.all.each 0 _ (slice_get-get_or c.args.seats.now 0 c.index-seats-0.result (some_one _ c.requires.one))).0;
}

pub abandon-requires-in-Err-issue_to_file : goal.abandon-requires-in-Err-issue_to_file
abandon-requires-in-Err-issue_to_file g c = record {
  new = new_at _ _ _ _ (idle_keyed _ _ _ _ c.requires.keyed) c.in-Ok.ensures.place c.in-Ok.ensures.created;
}

pub returns-in-Err-issue_to_file-clause-owing : goal.returns-in-Err-issue_to_file-clause-owing
returns-in-Err-issue_to_file-clause-owing g c =
    refused_owing _ _ c.index-seats-0.result _ (some_one _ c.requires.one) (not_granted _ _ _ c.in-Err-issue_to_file.ensures.refused.2)
    c.in-Err-issue_to_file.ensures.same c.requires.owing

pub returns-in-Err-issue_to_file-clause-keyed : goal.returns-in-Err-issue_to_file-clause-keyed
returns-in-Err-issue_to_file-clause-keyed g c =
    keyed_abandoned _ _ _ _ _ _
    (keyed_after _ _ _ (Created (new_output c.args.output.now)) _ _ (λ n. refl)
    (keyed_more _ _ (operations_of c.args.seats.now) _ _
    (λ n.
    let same = refusal_settles _ c.index-seats-0.result _ n (some_one _ c.requires.one) (not_granted _ _ _ c.in-Err-issue_to_file.ensures.refused.2) in
    omega arith)
    c.requires.keyed) c.in-Ok.ensures.created) c.abandon-in-Err-issue_to_file.ensures.abandoned

pub returns-in-Err-issue_to_file-clause-puts : goal.returns-in-Err-issue_to_file-clause-puts
returns-in-Err-issue_to_file-clause-puts g c = (
  [],
  given_up_unissued (under_in c.args.context.now) _ _ c.in-Err-issue_to_file.ensures.refused.0 _ _ _ _ _
      c.in-Err-issue_to_file.ensures.refused.1 (idle_keyed _ _ _ _ c.requires.keyed) c.in-Ok.ensures.place c.in-Ok.ensures.created
      c.abandon-in-Err-issue_to_file.ensures.abandoned c.requires.known,
  λ name lines voids a. refused_accounts_at c.args.context.now.ledger.now c.args.seats.now c.index-seats-0.result _ (some_one _ c.requires.one)
      (not_granted _ _ _ c.in-Err-issue_to_file.ensures.refused.2) lines voids name _ a,
)

-- its container may begin

pub allow_container-requires : goal.allow_container-requires
allow_container-requires g c = record {
  may = rw c.number.ensures (may_first c.args.context.now.key.now c.args.context.now.options.now.shape.now c.args.context.now.ledger.now c.args.seats.now c.index-seats-0.result
      c.issue_to_file.new.seat c.in-Ok-issue_to_file.grant c.args.output.now _ _ _ c.requires.one c.requires.owing.all c.in-Ok-issue_to_file.ensures.same
      c.in-Ok-issue_to_file.ensures.knows (c.in-Ok-issue_to_file.ensures.held ended.Void) c.in-Ok-issue_to_file.ensures.granted.0 c.requires.keyed
      c.in-Ok.ensures.place c.in-Ok.ensures.created c.chunk-chunk.ensures.shape);
}

pub fill_container-sealed-requires-clause-device : goal.fill_container-sealed-requires-clause-device
fill_container-sealed-requires-clause-device g c κs within =
    c.in-Ok-issue_to_file.ensures.granted.1
    ∙ ap (λ t. t.range.device) (c.requires.owing.all.each 0 _ (slice_get-get_or c.args.seats.now 0 c.index-seats-0.result (some_one _ c.requires.one))).1

pub fill_container-sealed-requires-clause-may : goal.fill_container-sealed-requires-clause-may
fill_container-sealed-requires-clause-may g c κs within =
    admits_first c.args.context.now.key.now c.args.context.now.options.now.shape.now c.args.context.now.ledger.now c.args.seats.now c.index-seats-0.result
    c.issue_to_file.new.seat c.in-Ok-issue_to_file.grant c.args.output.now _ _ _ c.requires.one c.requires.owing.all c.in-Ok-issue_to_file.ensures.same
    c.in-Ok-issue_to_file.ensures.knows (c.in-Ok-issue_to_file.ensures.held ended.Void) c.in-Ok-issue_to_file.ensures.granted.0 c.requires.keyed
    c.in-Ok.ensures.place c.in-Ok.ensures.created
    _ _ _ (rw c.number.ensures at c.allow_container.ensures.allowed) c.allow_container.ensures.fresh

-- it ends

pub end_output-requires-clause-all : goal.end_output-requires-clause-all
end_output-requires-clause-all g c =
    (granted_owing _ _ c.index-seats-0.result _ c.in-Ok-issue_to_file.grant (some_one _ c.requires.one) c.in-Ok-issue_to_file.ensures.granted.0
    c.in-Ok-issue_to_file.ensures.same c.in-Ok-issue_to_file.ensures.granted.1 c.requires.owing).all

pub end_output-requires-clause-owed : goal.end_output-requires-clause-owed
end_output-requires-clause-owed g c =
    let grant = c.in-Ok-issue_to_file.grant in
    let spent = c.fill_container-sealed.result.1 in
    let (device, number) = spent_number _ grant spent c.fill_container-sealed.ensures.sealed c.fill_container-sealed.ensures.void in
    let o : Outcome = job.Spoiled 0 (spent_as grant ended.Void) in
    owes_first c.args.context.now.ledger.now _ (o ∷ []) [] o 0 spent refl refl (λ n. ap (λ k. nat_eq n k) (sym number)) (λ d h. device ∙ h.0)
    (granted_owing _ _ c.index-seats-0.result _ grant (some_one _ c.requires.one) c.in-Ok-issue_to_file.ensures.granted.0
    c.in-Ok-issue_to_file.ensures.same c.in-Ok-issue_to_file.ensures.granted.1 c.requires.owing)

pub returns-clause-owing : goal.returns-clause-owing
returns-clause-owing g c =
    let grant = c.in-Ok-issue_to_file.grant in
    let spent = c.fill_container-sealed.result.1 in
    let (device, number) = spent_number _ grant spent c.fill_container-sealed.ensures.sealed c.fill_container-sealed.ensures.void in
    let o : Outcome = job.Spoiled 0 (spent_as grant ended.Void) in
    owing_rest c.args.context.now.ledger.now _ (o ∷ []) [] o 0 spent refl refl (λ n. ap (λ k. nat_eq n k) (sym number)) c.end_output.new.seats
    c.end_output.auto.seats c.end_output.ensures.all c.end_output.ensures.made
    (granted_owing _ _ c.index-seats-0.result _ grant (some_one _ c.requires.one) c.in-Ok-issue_to_file.ensures.granted.0
    c.in-Ok-issue_to_file.ensures.same c.in-Ok-issue_to_file.ensures.granted.1 c.requires.owing)

pub returns-clause-keyed : goal.returns-clause-keyed
returns-clause-keyed g c =
    let context = c.args.context.now in
    let grant = c.in-Ok-issue_to_file.grant in
    let run = c.fill_container-sealed.ensures in
    let seats = set c.args.seats.now 0 c.issue_to_file.new.seat in
    let (device, number) = spent_number _ grant c.fill_container-sealed.result.1 run.sealed run.void in
    however _ _ _ _ _ _ _ _ _ _ (rw c.number.ensures at c.allow_container.ensures.allowed) c.allow_container.ensures.fresh run.rest
    (IsKeyed context.key.now context.ledger.now.terms.range (operations_of c.end_output.new.seats)) _ c.end_output.result
    (λ state held n r. keyed_ended c.args.context.now.key.now c.args.context.now.options.now.shape.now c.args.context.now.ledger.now c.args.seats.now c.index-seats-0.result
    c.issue_to_file.new.seat c.in-Ok-issue_to_file.grant c.args.output.now _ _ _ c.requires.one c.requires.owing.all c.in-Ok-issue_to_file.ensures.same
    c.in-Ok-issue_to_file.ensures.knows (c.in-Ok-issue_to_file.ensures.held ended.Void) c.in-Ok-issue_to_file.ensures.granted.0 c.requires.keyed
    c.in-Ok.ensures.place c.in-Ok.ensures.created
    state held n _ _ r
    (subst (λ n. IsEnding n (operations_of seats) (operations_of c.end_output.new.seats) c.end_output.result) number c.end_output.ensures.settled))
    c.end_output.ensures.closed

pub returns-clause-puts : goal.returns-clause-puts
returns-clause-puts g c =
    let u = under_in c.args.context.now in
    let grant = c.in-Ok-issue_to_file.grant in
    let spent = c.fill_container-sealed.result.1 in
    let run = c.fill_container-sealed.ensures in
    let (device, number) = spent_number _ grant spent run.sealed run.void in
    let o : Outcome = job.Spoiled 0 (spent_as grant ended.Void) in
    let of_ledger : grant.device ≡ u.device =
    c.in-Ok-issue_to_file.ensures.granted.1 ∙ ap (λ t. t.range.device) (c.requires.owing.all.each 0 _ (slice_get-get_or c.args.seats.now 0 c.index-seats-0.result (some_one _ c.requires.one))).1 in (
      void_at grant.number c.end_output.result,
      sealed_ends u grant.number _ _ _ _ _ _ _ _ _ _ _ _ _ _ _ _ c.requires.known
          (idle_keyed _ _ _ _ c.requires.keyed)
          c.in-Ok.ensures.place c.in-Ok.ensures.created (rw c.number.ensures at c.allow_container.ensures.allowed)
          c.allow_container.ensures.fresh run.rest grant.device spent.number _ _ of_ledger number run.reads run.writes run.by_bytes
          c.end_output.ensures.outcome c.end_output.ensures.closed,
      λ name lines voids a. let_go _ _ _ (ended_first c.args.context.now.ledger.now c.args.seats.now (o ∷ []) [] o 0 spent refl refl (λ n. ap (λ k. nat_eq n k) (sym number)) lines voids _ _ _ name c.end_output.result
          (ap (λ n. void_at n c.end_output.result) (sym number)) c.end_output.ensures.settled
          (granted_held c.args.context.now.ledger.now c.args.seats.now c.index-seats-0.result _ grant (some_one _ c.requires.one) c.in-Ok-issue_to_file.ensures.granted.0 lines voids a)),
    )
