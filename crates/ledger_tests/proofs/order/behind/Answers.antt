use Rattle.std.proofs.Common.{ap}
use Rattle.journal_core.proofs.Histories.{begins_trans}
use Rattle.ledger_core.specs.Shared.{SeatView}
use Rattle.ledger_tests.proofs.order.behind.Goals as goal

pub returns-clause-apart : goal.returns-clause-apart
returns-clause-apart c =
    let looked = c.tally-tally.ensures.sees in
    let heard = begins_trans _ _ _ c.hear.ensures.heard (looked.0, ap (λ (v : SeatView). v.seen) looked.1) in
    let issued = c.in_ok-grant.ensures in
    c.heard_numbers_are_not_granted_again.ensures c.args.note.seen c.tally-tally.new.seat c.issue.new.seat c.in_ok-grant.grant.number heard issued.granted issued.knows
