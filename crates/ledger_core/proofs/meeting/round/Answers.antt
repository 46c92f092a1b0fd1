use Rattle.std.proofs.Common.{◌<◌, ◌∙◌, sym, subst, length, arith}
use Rattle.ledger_core.specs.Shared.{SeatView}
use Rattle.ledger_core.specs.Meeting.{IsPassed}
use Rattle.ledger_core.proofs.Meetings.{goes_on, arrives}
use Rattle.ledger_core.proofs.meeting.round.Goals as goal

pub loop-seat-preserved : goal.loop-seat-preserved
loop-seat-preserved c =
    let inv = c.loop-seat.invariant in
    let p = c.pass-note.ensures in
    let count = c.loop-seat.auto.seats in
    let more = c.loop-seat-test.true in
    let inside : c.loop-seat.seat-index < length c.loop-seat.seats = omega arith in
    let on = subst (λ (v : SeatView). IsPassed c.loop-seat.note.me.0.seen c.pass-note.result.me.0.seen v c.pass-note.new.seat) (sym c.seat-item.is) p.on in
    (p.note.0 ∙ sym c.requires.note.0, p.note.1, goes_on _ _ _ _ _ _ c.seat-item.result c.pass-note.new.seat inv.2 inside c.seat-item.is on)

pub returns-clause-on : goal.returns-clause-on
returns-clause-on c = arrives _ _ _ _ _ c.loop-seat.invariant.2 c.loop-seat-test.false
