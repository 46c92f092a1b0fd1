use Rattle.std.proofs.Common.{◌∙◌, subst}
use Rattle.journal_core.specs.History.{IsLawful}
use Rattle.ledger_core.specs.Shared.{LedgerView}
use Rattle.ledger_core.proofs.Closing.{closes}
use Rattle.ledger_core.proofs.close.put_together.Goals as goal

pub returns : goal.returns
returns c =
    let lawful = subst (λ (l : LedgerView). IsLawful l.terms) c.ledger.view_is c.ledger.invariant.1 in
    let met = c.meet_all.ensures in
    closes _ _ _ met.0 _ lawful c.requires.all met.1 c.fill_all.ensures.placed (c.fill_all.ensures.length ∙ c.requires.room)
