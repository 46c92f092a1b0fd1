use Rattle.std.proofs.Common.{◌≡◌, ◌∙◌, [], ap, refl, rules, sym}
use Rattle.crew_core.specs.declared.outcome.Outcome.TheVariants as job
use Rattle.sealer_core.specs.Group.{void_at}
use Rattle.sealer_core.proofs.Groups.{held_as, held_without, void_read, void_unread}
use Rattle.sealer_core.proofs.Owing.{ended_first, first_as, held_unissued, owes_first, owing_rest, owing_unissued}
use Rattle.sealer_core.proofs.Keyed.{keyed_abandoned}
use Rattle.sealer_core.proofs.Sessions.{once_ended, owed_unsettled}
use Rattle.sealer_core.proofs.group.end_file.Goals as goal

pub returns-in-Refused-clause-accounts : goal.returns-in-Refused-clause-accounts
returns-in-Refused-clause-accounts g c = λ lines voids a. held_without lines voids _ _ _ _ _ (void_unread c.args.file _ _ _ c.in-Refused.is refl) a

pub returns-in-Unread-clause-keyed : goal.returns-in-Unread-clause-keyed
returns-in-Unread-clause-keyed g c = keyed_abandoned _ _ _ _ _ _ c.requires.keyed c.abandon.ensures.abandoned

pub returns-in-Unread-clause-accounts : goal.returns-in-Unread-clause-accounts
returns-in-Unread-clause-accounts g c = λ lines voids a. held_without lines voids _ _ _ _ _ (void_unread c.args.file _ _ _ c.in-Unread.is refl) a

-- its job was sealed

pub put_waiting-requires-clause-owed : goal.put_waiting-requires-clause-owed
put_waiting-requires-clause-owed g c =
    let s = c.in-Some-Sealed in
    owes_first c.args.context.now.ledger.now _ _ _ (job.Sealed s.seat s.bytes s.spent) s.seat s.spent (first_as _ _ _ _ s.ensures.items s.field-0-is) refl (λ n. refl) (λ d ended. ended.0) c.requires.owing

pub put_waiting-requires-clause-unsettled : goal.put_waiting-requires-clause-unsettled
put_waiting-requires-clause-unsettled g c =
    let s = c.in-Some-Sealed in
    owed_unsettled c.args.context.now.ledger.now _ _ s.seat s.spent.device s.spent.number c.requires.owing
    (owes_first c.args.context.now.ledger.now _ _ _ (job.Sealed s.seat s.bytes s.spent) s.seat s.spent (first_as _ _ _ _ s.ensures.items s.field-0-is) refl (λ n. refl) (λ d ended. ended.0) c.requires.owing)
    c.requires.once

pub returns-in-Some-Sealed-clause-owing : goal.returns-in-Some-Sealed-clause-owing
returns-in-Some-Sealed-clause-owing g c =
    let s = c.in-Some-Sealed in
    owing_rest c.args.context.now.ledger.now _ _ _ (job.Sealed s.seat s.bytes s.spent) s.seat s.spent (first_as _ _ _ _ s.ensures.items s.field-0-is) refl (λ n. refl)
    _ c.put_waiting.auto.seats c.put_waiting.ensures.all c.put_waiting.ensures.made c.requires.owing

pub returns-in-Some-Sealed-clause-once : goal.returns-in-Some-Sealed-clause-once
returns-in-Some-Sealed-clause-once g c = once_ended _ _ _ _ c.put_waiting.ensures.settled c.requires.once

pub returns-in-Some-Sealed-clause-accounts : goal.returns-in-Some-Sealed-clause-accounts
returns-in-Some-Sealed-clause-accounts g c = λ lines voids a.
    let s = c.in-Some-Sealed in
    let is = first_as _ _ _ _ s.ensures.items s.field-0-is in
    ended_first c.args.context.now.ledger.now c.args.seats.now _ _ (job.Sealed s.seat s.bytes s.spent) s.seat s.spent is refl (λ n. refl) lines voids _ _ _ _ c.put_waiting.result
    (void_read c.args.file c.in-Read.field-0 c.in-Read.output c.in-Read.bytes _ _ c.put_waiting.result c.in-Read.is is) c.put_waiting.ensures.settled a

-- its job was spoiled

pub spoil_waiting-requires-clause-owed : goal.spoil_waiting-requires-clause-owed
spoil_waiting-requires-clause-owed g c =
    let s = c.in-Some-Spoiled in
    owes_first c.args.context.now.ledger.now _ _ _ (job.Spoiled s.seat s.spent) s.seat s.spent (first_as _ _ _ _ s.ensures.items s.field-0-is) refl (λ n. refl) (λ d ended. ended.0) c.requires.owing

pub spoil_waiting-requires-clause-unsettled : goal.spoil_waiting-requires-clause-unsettled
spoil_waiting-requires-clause-unsettled g c =
    let s = c.in-Some-Spoiled in
    owed_unsettled c.args.context.now.ledger.now _ _ s.seat s.spent.device s.spent.number c.requires.owing
    (owes_first c.args.context.now.ledger.now _ _ _ (job.Spoiled s.seat s.spent) s.seat s.spent (first_as _ _ _ _ s.ensures.items s.field-0-is) refl (λ n. refl) (λ d ended. ended.0) c.requires.owing)
    c.requires.once

pub returns-in-Some-Spoiled-clause-owing : goal.returns-in-Some-Spoiled-clause-owing
returns-in-Some-Spoiled-clause-owing g c =
    let s = c.in-Some-Spoiled in
    owing_rest c.args.context.now.ledger.now _ _ _ (job.Spoiled s.seat s.spent) s.seat s.spent (first_as _ _ _ _ s.ensures.items s.field-0-is) refl (λ n. refl)
    _ c.spoil_waiting.auto.seats c.spoil_waiting.ensures.all c.spoil_waiting.ensures.made c.requires.owing

pub returns-in-Some-Spoiled-clause-once : goal.returns-in-Some-Spoiled-clause-once
returns-in-Some-Spoiled-clause-once g c = once_ended _ _ _ _ c.spoil_waiting.ensures.settled c.requires.once

pub returns-in-Some-Spoiled-clause-accounts : goal.returns-in-Some-Spoiled-clause-accounts
returns-in-Some-Spoiled-clause-accounts g c = λ lines voids a.
    let s = c.in-Some-Spoiled in
    let end = c.spoil_waiting.result in
    let is = first_as _ _ _ _ s.ensures.items s.field-0-is in
    ended_first c.args.context.now.ledger.now c.args.seats.now _ _ (job.Spoiled s.seat s.spent) s.seat s.spent is refl (λ n. refl) lines voids _ _ _ _ end
    (void_read c.args.file c.in-Read.field-0 c.in-Read.output c.in-Read.bytes _ _ end c.in-Read.is is ∙ sym (ap (λ e. void_at s.spent.number e) c.spoil_waiting.ensures.outcome))
    c.spoil_waiting.ensures.settled a

-- it had no number

pub returns-in-Some-Unissued-clause-owing : goal.returns-in-Some-Unissued-clause-owing
returns-in-Some-Unissued-clause-owing g c =
    let s = c.in-Some-Unissued in
    owing_unissued _ _ s.field-0-0 s.fault (first_as _ _ _ _ s.ensures.items s.field-0-is) _ _ c.requires.owing

pub returns-in-Some-Unissued-clause-keyed : goal.returns-in-Some-Unissued-clause-keyed
returns-in-Some-Unissued-clause-keyed g c = keyed_abandoned _ _ _ _ _ _ c.requires.keyed c.abandon-in-Some-Unissued.ensures.abandoned

pub returns-in-Some-Unissued-clause-accounts : goal.returns-in-Some-Unissued-clause-accounts
returns-in-Some-Unissued-clause-accounts g c = λ lines voids a.
    let s = c.in-Some-Unissued in
    let is = first_as _ _ _ _ s.ensures.items s.field-0-is in
    held_without lines voids _ _ _ _ _ (void_read c.args.file c.in-Read.field-0 c.in-Read.output c.in-Read.bytes _ _ _ c.in-Read.is is) (held_unissued _ _ s.field-0-0 s.fault is lines voids _ a)

-- there is no outcome

pub returns-in-None-clause-keyed : goal.returns-in-None-clause-keyed
returns-in-None-clause-keyed g c = keyed_abandoned _ _ _ _ _ _ c.requires.keyed c.abandon-in-None.ensures.abandoned

pub returns-in-None-clause-accounts : goal.returns-in-None-clause-accounts
returns-in-None-clause-accounts g c = λ lines voids a.
    let none : c.args.outcomes.now.items ≡ [] = search rules in
    held_without lines voids _ _ _ _ _ (void_read c.args.file c.in-Read.field-0 c.in-Read.output c.in-Read.bytes _ _ _ c.in-Read.is none) (held_as lines voids _ _ _ c.in-None.ensures.items a)
