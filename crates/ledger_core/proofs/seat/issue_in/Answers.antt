use Rattle.std.proofs.Common.{ap, ◌∙◌, subst}
use Rattle.ledger_core.specs.Logs.{held_after, HasMark}
use Rattle.ledger_core.proofs.Seats.{granted_held, seat_issues, found_small, steps_by, reply_marked, reply_room}
use Rattle.ledger_core.proofs.seat.issue_in.Goals as goal

pub reply-granted-requires-clause-word : goal.reply-granted-requires-clause-word
reply-granted-requires-clause-word c = let a = c.issue_step-found.ensures.step in found_small _ _ _ _ _ _ _ a.0 c.requires.seat a.1.0

pub place-place-requires : goal.place-place-requires
place-place-requires c = let a = c.issue_step-found.ensures.step in found_small _ _ _ _ _ _ _ a.0 c.requires.seat a.1.0

pub keep-requires-clause-mark : goal.keep-requires-clause-mark
keep-requires-clause-mark c =
    reply_marked _ _ _ _ _ _ _ _ _ _ c.requires.seat c.issue_step-found.ensures.step (c.event_of.ensures ∙ c.reply-granted.ensures) c.lo.ensures

pub keep-requires-clause-room : goal.keep-requires-clause-room
keep-requires-clause-room c = reply_room c.args.fields.now.opening _ _ _ _ (c.event_of.ensures ∙ c.reply-granted.ensures) c.requires.room

pub returns-clause-seat : goal.returns-clause-seat
returns-clause-seat c =
    let s = c.issue_step-found.ensures in
    let k = c.keep.ensures in
    let lo = c.lo.ensures in
    seat_issues _ _ _ _ _ _ _ _ _ _ _ _ c.event_of.result c.requires.seat s.step s.table.1 (c.event_of.ensures ∙ c.reply-granted.ensures) c.place-place.ensures
    k.closed k.log (k.held ∙ ap (λ z. held_after z c.args.fields.now.own.held.items c.event_of.result) lo)

pub returns-clause-step : goal.returns-clause-step
returns-clause-step c =
    let s = c.requires.seat in
    steps_by _ _ _ _ _ _ s.terms s.number s.lawful c.issue_step-found.ensures.step c.reply-granted.ensures

pub returns-clause-held : goal.returns-clause-held
returns-clause-held c =
    let s = c.issue_step-found.ensures in
    let k = c.keep.ensures in
    let lo = c.lo.ensures in
    let event = c.event_of.ensures in
    let old = c.args.fields.now.own.held.items in
    let seat = seat_issues _ _ _ _ _ _ _ _ _ _ _ _ c.event_of.result c.requires.seat s.step s.table.1 (event ∙ c.reply-granted.ensures) c.place-place.ensures
    k.closed k.log (k.held ∙ ap (λ z. held_after z old c.event_of.result) lo) in
    granted_held _ _ _ _ _ old _ _ _ seat lo
    (subst (HasMark c.lo.result old) event (reply_marked _ _ _ _ _ _ _ _ _ _ c.requires.seat s.step (event ∙ c.reply-granted.ensures) lo))
    (k.held ∙ ap (held_after c.lo.result old) event)
