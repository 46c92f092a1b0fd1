use Rattle.std.proofs.Common.{◌∙◌, ap, sym}
use Rattle.journal_core.specs.declared.terms.Terms.{Terms}
use Rattle.ledger_core.specs.Shared.{fresh_seats}
use Rattle.ledger_core.proofs.Callers.{all_fresh}
use Rattle.ledger_core.proofs.ledger.Ledger.open.Goals as goal

pub returns-in-Ok-clause-all : goal.returns-in-Ok-clause-all
returns-in-Ok-clause-all c =
    let made = c.in-Ok.ensures in
    all_fresh _ _ (made.seats ∙ ap (λ (k : Terms). fresh_seats c.in-Ok.made.0.ledger k k.seats) (sym made.terms))
