use Rattle.std.proofs.Common.{ℕ, List, ap, sym, ◌∙◌, subst}
use Rattle.std.proofs.lemmas.Bool.{eqb-true}
use Rattle.journal_core.specs.declared.entry.Entry.{Entry}
use Rattle.ledger_core.specs.Rule.{IsHeld}
use Rattle.ledger_core.specs.Logs.{IsMarked}
use Rattle.ledger_core.specs.Shared.{SeatView}
use Rattle.ledger_core.proofs.Seats.{marked_iff}
use Rattle.ledger_core.proofs.seat.Seat.holds.Goals as goal

pub returns-then-eq : goal.returns-then-eq
returns-then-eq c =
    let number = c.number.ensures in
    let mine = ap (λ (v : SeatView). v.mine) c.self.view_is in
    let device = sym c.device.ensures ∙ eqb-true _ _ (sym c.eq.ensures ∙ c.if-eq.true) ∙ c.device-2.ensures ∙ ap (λ (v : SeatView). v.terms.range.device) c.self.view_is in
    let marked = marked_iff _ _ c.args.spent.now.number _ _ _ _ c.self.invariant in
    let Marked : ℕ → Type 0 = λ n. IsMarked c.self.inside.fields.opening c.self.inside.fields.own.held.items n in
    let Held : List Entry → Type 0 = λ l. IsHeld c.args.spent.now.number l in (
      (λ yes. let held = subst Held mine (marked.0 (subst Marked number (c.is_marked.ensures.0 yes))) in (device, held.granted, held.unsettled)),
      (λ holds. c.is_marked.ensures.1 (subst Marked (sym number) (marked.1 (subst Held (sym mine) record { granted = holds.1; unsettled = holds.2 })))),
    )
