use Rattle.std.proofs.Common.{ap, ◌∙◌, sym, subst}
use Rattle.journal_core.specs.declared.entry.Event.TheVariants.{Settled}
use Rattle.ledger_core.specs.Logs.{held_after, HasMark}
use Rattle.ledger_core.proofs.Seats.{seat_settles, found_small, marked_iff}
use Rattle.ledger_core.proofs.seat.settle_in.Goals as goal

pub place-place-requires : goal.place-place-requires
place-place-requires c = let a = c.settle_step-found.ensures.step in found_small _ _ _ _ _ _ _ a.0 c.requires.seat a.1.0

pub keep-requires-clause-mark : goal.keep-requires-clause-mark
keep-requires-clause-mark c =
    subst (λ z. HasMark z c.args.fields.now.own.held.items (Settled c.number-settled.result c.way-way.result)) (sym c.lo.ensures)
    (subst (λ n. HasMark c.args.fields.now.opening.range.lo c.args.fields.now.own.held.items (Settled n c.way-way.result)) (sym c.number-settled.ensures)
    ((marked_iff _ _ _ _ _ _ _ c.requires.seat).1 c.requires.held))

pub returns-clause-seat : goal.returns-clause-seat
returns-clause-seat c =
    let s = c.settle_step-found.ensures in
    let k = c.keep.ensures in
    let lo = c.lo.ensures in
    seat_settles _ _ c.number-settled.result c.way-way.result _ _ _ _ _ _ _ _ _ _ c.requires.seat s.step s.table.1 c.place-place.ensures
    k.closed k.log (k.held ∙ ap (λ z. held_after z c.args.fields.now.own.held.items (Settled c.number-settled.result c.way-way.result)) lo)
