use Rattle.std.proofs.Common.{List, subst}
use Rattle.ledger_core.specs.Shared.{SeatView}
use Rattle.ledger_core.specs.Meeting.{ArePassed}
use Rattle.ledger_core.proofs.Meetings.{still_ours, have_met, unchanged}
use Rattle.ledger_core.proofs.meeting.meet_all.Goals as goal

pub round-requires-clause-ours : goal.round-requires-clause-ours
round-requires-clause-ours c =
    let seats = unchanged c.args.seats.now 0 _ c.show-note.new.seat c.show-note.ensures.same in
    still_ours _ _ _ _ _ (subst (λ (l : List SeatView). ArePassed c.show-note.result.me.0.seen c.round-note.result.me.0.seen l c.round-note.new.seats) seats c.round-note.ensures.on) c.requires.ours

pub returns : goal.returns
returns c =
    let seats = unchanged c.args.seats.now 0 _ c.show-note.new.seat c.show-note.ensures.same in
    let first = subst (λ (l : List SeatView). ArePassed c.show-note.result.me.0.seen c.round-note.result.me.0.seen l c.round-note.new.seats) seats c.round-note.ensures.on in
    (c.round-note.result.me.0.seen, have_met _ _ _ _ _ _ first c.round.ensures.on)
