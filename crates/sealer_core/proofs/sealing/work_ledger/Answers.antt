use Rattle.std.proofs.Common.{◌≡◌, ◌++◌, ◌∙◌, List, length, take, drop, ap, subst, arith}
use Rattle.ledger_core.specs.Closing.{IsWhole}
use Rattle.ledger_core.specs.Shared.{SeatView}
use Rattle.sealer_core.specs.Sealing.{operations_of}
use Rattle.sealer_core.proofs.Numbering.{fresh_operations, has_sealed, written_back}
use Rattle.sealer_core.proofs.Started.{sealed_since}
use Rattle.sealer_core.proofs.sealing.work_ledger.Goals as goal

pub seal_groups-told-requires-clause-fresh : goal.seal_groups-told-requires-clause-fresh
seal_groups-told-requires-clause-fresh g c κs within =
    ap operations_of (c.as_mut_slice.ensures.value ∙ c.requires.fresh) ∙ fresh_operations c.args.ledger.ledger c.args.ledger.terms c.args.options.now.lanes

pub returns-clause-sealed : goal.returns-clause-sealed
returns-clause-sealed g c =
    let seats : List SeatView = c.seal_groups-told.new.seats in
    let back : take c.args.seats.len (seats ++ drop (length seats) c.args.seats.items) ≡ seats = written_back c.args.seats.len seats _ (omega arith) in
    let (history, whole, written) = c.end_ledger.ensures in (
      history,
      has_sealed _ _ c.args.ledger seats history _ _ _ _ _ c.seal_groups-told.ensures.all
          (subst (λ (s : List SeatView). IsWhole c.args.ledger.terms s history) back whole)
          (sealed_since c.args.key.now c.args.ledger.terms.range _ _ c.start_record.ensures.began _ _ _ _ _ _ _ c.seal_groups-told.ensures.sealed),
      written,
    )
