use Rattle.std.proofs.Common.{ap, arith, length, map}
use Rattle.folder_core.specs.Growth.{Grows}
use Rattle.journal_core.specs.History.{times_settled}
use Rattle.sealer_core.specs.Group.{AddsLines, under_in}
use Rattle.sealer_core.specs.Sealing.{operations_of}
use Rattle.sealer_core.proofs.Groups.{few_jobs, few_outcomes, group_of, one_group, refused_group, single_name}
use Rattle.sealer_core.proofs.Keyed.{idle_keyed, keyed_more, keyed_prepared}
use Rattle.sealer_core.proofs.Sealings.{one_added, refused_added, sealed_more}
use Rattle.sealer_core.proofs.Sessions.{held_met, met_operations, owing_met}
use Rattle.sealer_core.proofs.FileEnds.{are_left, none_ends}
use Rattle.sealer_core.proofs.group.seal_group.Goals as goal

pub returns-then-seats-eq1-clause-group : goal.returns-then-seats-eq1-clause-group
returns-then-seats-eq1-clause-group g c = λ earlier old before s.
    let (void, added, accounts) = c.seal_file-outcome.ensures.adds in
    let one = c.if-seats-eq1.true in
    let few = c.requires.few.1 in
    sealed_more (under_in c.args.context.now) earlier _ _ _ _ _ old _ _ before _ _ s
    (one_group _ _ _ c.seal_file-outcome.result void _ _ _ _ _ _ (single_name c.args.names.now _ c.requires.few.0 (omega arith)) c.seal_file-outcome.ensures.outcome
    c.tell.ensures accounts (one_added (under_in c.args.context.now) _ c.seal_file-outcome.result void _ _ added))

pub prepare_group-requires : goal.prepare_group-requires
prepare_group-requires g c = record {
  idle = idle_keyed c.args.context.now.key.now c.args.context.now.ledger.now.terms.range _ _ c.requires.keyed;
}

pub returns-in_default-clause-group : goal.returns-in_default-clause-group
returns-in_default-clause-group g c = λ earlier old before s.
    sealed_more (under_in c.args.context.now) earlier _ _ _ _ _ old _ _ before _ _ s
    (refused_group _ _ _ _ _ _ _ c.refuse_group.ensures (refused_added (under_in c.args.context.now) _ _ _ (ap g.F.Outputs.rest c.in_default.ensures.refused)))

pub seal_jobs-outcomes-requires-clause-few : goal.seal_jobs-outcomes-requires-clause-few
seal_jobs-outcomes-requires-clause-few g c κs within =
    let few = few_jobs c.in-Ok.files.items c.in-Ok.jobs.items c.args.names.now c.in-Ok.ensures.names c.in-Ok.ensures.read in
    let same = ap length c.as_slice.ensures.value in
    let all = c.requires.few.1 in omega arith

pub end_group-requires-clause-owing : goal.end_group-requires-clause-owing
end_group-requires-clause-owing g c = owing_met _ _ _ _ c.meet_seats.ensures.mine c.meet_seats.auto.seats c.meet_seats.ensures.all c.seal_jobs-outcomes.ensures.owing

pub end_group-requires-clause-few : goal.end_group-requires-clause-few
end_group-requires-clause-few g c = few_outcomes _ _ _ _ c.in-Ok.files.items _ c.seal_jobs-outcomes.ensures.outcomes c.as_slice.ensures.value c.in-Ok.ensures.read

pub end_group-requires-clause-keyed : goal.end_group-requires-clause-keyed
end_group-requires-clause-keyed g c =
    let context = c.args.context.now in
    keyed_more context.key.now context.ledger.now.terms.range (operations_of c.args.seats.now) _ _
    (λ n.
    let settled = c.seal_jobs-outcomes.ensures.settled n in
    let met = ap (times_settled n) (met_operations _ _ c.meet_seats.ensures.mine) in omega arith)
    (keyed_prepared context.key.now context.ledger.now.terms.range g.F.Handle.Place.at (under_in context) _ _ (operations_of c.args.seats.now) _ _ c.requires.keyed c.in-Ok.ensures.waits)

pub end_group-requires-clause-waits : goal.end_group-requires-clause-waits
end_group-requires-clause-waits g c = (
  _,
  none_ends g.F.Handle.Place.at (under_in c.args.context.now) c.in-Ok.files.items _ c.seal_jobs-outcomes.result.items _ _
      (are_left (under_in c.args.context.now) _ _ c.seal_jobs-outcomes.result.items _ (ap (map (λ job. job.items)) c.as_slice.ensures.value) c.seal_jobs-outcomes.ensures.outcomes c.seal_jobs-outcomes.ensures.owing.held)
      c.in-Ok.ensures.waits,
)

pub returns-clause-group : goal.returns-clause-group
returns-clause-group g c = λ earlier old before s.
    let e = c.end_group.ensures.ended in
    let left = are_left (under_in c.args.context.now) _ _ c.seal_jobs-outcomes.result.items _ (ap (map (λ job. job.items)) c.as_slice.ensures.value) c.seal_jobs-outcomes.ensures.outcomes c.seal_jobs-outcomes.ensures.owing.held in
    sealed_more (under_in c.args.context.now) earlier _ _ _ _ _ old _ _ before _ _ s
    (group_of _ (λ lines voids. Grows (AddsLines (under_in c.args.context.now) lines voids) (g.F.Outputs.rest c.args.folder.now) (g.F.Outputs.rest c.end_group.new.folder)) _ _ _ _ _ e
    c.in-Ok.ensures.names (λ lines voids a. held_met lines voids _ _ _ c.meet_seats.ensures.mine (c.seal_jobs-outcomes.ensures.accounts lines voids a))
    (λ lines voids done. done _ (none_ends g.F.Handle.Place.at (under_in c.args.context.now) c.in-Ok.files.items _ c.seal_jobs-outcomes.result.items _ _ left c.in-Ok.ensures.waits)))
