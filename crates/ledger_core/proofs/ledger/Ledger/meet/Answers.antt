use Rattle.std.proofs.Common.{[], ◌∙◌, sym, append-nil}
use Rattle.ledger_core.proofs.Meetings.{agree_met}
use Rattle.ledger_core.proofs.ledger.Ledger.meet.Goals as goal

pub returns-clause-agreed : goal.returns-clause-agreed
returns-clause-agreed c =
    let one = c.learn.ensures in
    let two = c.adopt.ensures in
    let others = c.show-others.ensures in
    let both = c.show-both.ensures in
    agree_met _ _ _ _ _ _ _ one.sees one.knows others.shown one.told others.same both.shown ([], two.shown ∙ sym (append-nil _)) two.sees two.known two.knows
