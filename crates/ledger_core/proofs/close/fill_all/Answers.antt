use Rattle.std.proofs.Common.{◌∙◌, List, ap}
use Rattle.ledger_core.specs.declared.table.Record.{Record}
use Rattle.ledger_core.specs.Placing.{written}
use Rattle.ledger_core.proofs.Closing.{placed_next, placed_all}
use Rattle.ledger_core.proofs.close.fill_all.Goals as goal

pub loop-seat-preserved : goal.loop-seat-preserved
loop-seat-preserved c =
    let inv = c.loop-seat.invariant in
    let wrote = c.fill.ensures ∙ ap (λ (r : List Record). written r c.loop-seat.entries.items) c.as_slice.ensures.value in
    let next = placed_next _ _ c.seat-item.result _ _ _ _ _ _ c.seat.inside.fields.token.me _ _ c.seat.invariant (c.seat.view_is ∙ c.seat-item.is) c.loop-seat-test.true inv.1 wrote in
    (next.0 ∙ inv.0, next.1)

pub returns-clause-placed : goal.returns-clause-placed
returns-clause-placed c = placed_all _ _ _ c.loop-seat-test.false c.loop-seat.invariant.1
