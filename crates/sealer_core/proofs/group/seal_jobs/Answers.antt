use Rattle.std.proofs.Common.{All, List, ap, arith, sym, subst, length}
use Rattle.crew_core.proofs.Callers.{all_after_batch}
use Rattle.journal_core.specs.History.{times_settled}
use Rattle.ledger_core.specs.Shared.{SeatView}
use Rattle.sealer_core.specs.Group.{AreHeld, AreOwing, IsContainerUnder}
use Rattle.sealer_core.specs.Sealing.{operations_of}
use Rattle.sealer_core.proofs.Groups.{held_as, after_batch, outcomes_held, owed_batch, among_seats}
use Rattle.sealer_core.proofs.Owing.{nothing_held, owing_as}
use Rattle.sealer_core.proofs.Sessions.{batch_settles, containers_of, none_under}
use Rattle.sealer_core.proofs.group.seal_jobs.Goals as goal

pub returns-then-lanes-eq0-clause-owing : goal.returns-then-lanes-eq0-clause-owing
returns-then-lanes-eq0-clause-owing g c = owing_as _ _ _ _ (sym c.new.ensures.items) c.requires.owing

pub returns-then-lanes-eq0-clause-accounts : goal.returns-then-lanes-eq0-clause-accounts
returns-then-lanes-eq0-clause-accounts g c = λ lines voids a. held_as lines voids _ _ _ (sym c.new.ensures.items) (nothing_held lines voids _ a)

pub returns-in-Ok-clause-owing : goal.returns-in-Ok-clause-owing
returns-in-Ok-clause-owing g c =
    let all = all_after_batch c.args.context.now.ledger.now c.args.seats.now c.seal_batch.new.seats c.seal_batch.auto.seats c.seal_batch.ensures.seen c.requires.owing.all in
    owing_as _ _ c.in-Ok.outcomes.items _ (sym c.from.ensures.0) (record {
      all = all;
      held = outcomes_held _ _ _ _ (length c.seal_batch.new.seats) c.args.context.now.ledger.now _ c.in-Ok.outcomes.items (omega (arith, c.lanes_for-lanes.ensures.within, c.requires.few, c.seal_batch.auto.seats))
          c.in-Ok.ensures.outcomes c.in-Ok.ensures.at_seats all;
      owed = owed_batch c.args.seats.now c.seal_batch.new.seats _ c.seal_batch.auto.seats c.in-Ok.ensures.issued c.requires.owing.owed;
    })

pub returns-in-Ok-clause-accounts : goal.returns-in-Ok-clause-accounts
returns-in-Ok-clause-accounts g c = λ lines voids a. held_as lines voids c.in-Ok.outcomes.items c.from.result.items _ (sym c.from.ensures.0)
    (after_batch c.args.seats.now c.seal_batch.new.seats c.in-Ok.outcomes.items lines voids c.seal_batch.auto.seats (among_seats _ _ _ _ (omega (arith, c.lanes_for-lanes.ensures.within, c.requires.few)) c.in-Ok.ensures.at_seats) c.in-Ok.ensures.issued a)

pub returns-in-Err-clause-owing : goal.returns-in-Err-clause-owing
returns-in-Err-clause-owing g c = subst (λ (v : List SeatView). AreOwing c.args.context.now.ledger.now v c.new-in-Err.result.items) (sym c.in-Err.ensures.refused)
    (owing_as _ _ _ _ (sym c.new-in-Err.ensures.items) c.requires.owing)

pub returns-in-Err-clause-accounts : goal.returns-in-Err-clause-accounts
returns-in-Err-clause-accounts g c = λ lines voids a. subst (λ (v : List SeatView). AreHeld lines voids c.new-in-Err.result.items (operations_of v)) (sym c.in-Err.ensures.refused)
    (held_as lines voids _ c.new-in-Err.result.items _ (sym c.new-in-Err.ensures.items) (nothing_held lines voids (operations_of c.args.seats.now) a))

pub returns-then-lanes-eq0-clause-containers : goal.returns-then-lanes-eq0-clause-containers
returns-then-lanes-eq0-clause-containers g c = none_under _ _ _ c.new.ensures.items

pub returns-in-Ok-clause-containers : goal.returns-in-Ok-clause-containers
returns-in-Ok-clause-containers g c =
    subst (All (IsContainerUnder c.args.context.now.key.now c.args.context.now.options.now.shape.now)) (sym c.from.ensures.0) (containers_of c.args.context.now.key.now c.args.context.now.options.now.shape.now _ _ c.in-Ok.ensures.outcomes)

pub returns-in-Ok-clause-settled : goal.returns-in-Ok-clause-settled
returns-in-Ok-clause-settled g c = λ n. batch_settles _ _ _ n c.seal_batch.auto.seats c.in-Ok.ensures.issued

pub returns-in-Err-clause-containers : goal.returns-in-Err-clause-containers
returns-in-Err-clause-containers g c = none_under _ _ _ c.new-in-Err.ensures.items

pub returns-in-Err-clause-settled : goal.returns-in-Err-clause-settled
returns-in-Err-clause-settled g c = λ n. ap (λ v. times_settled n (operations_of v)) c.in-Err.ensures.refused
