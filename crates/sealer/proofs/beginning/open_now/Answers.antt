use Rattle.std.proofs.Common.{◌∙◌}
use Rattle.sealer.proofs.beginning.open_now.Goals as goal

pub returns-in-Ok-open_ledger : goal.returns-in-Ok-open_ledger
returns-in-Ok-open_ledger g c =
    let found = c.in-Ok-open_ledger.ensures.found in
    record {
      found = (found.0, found.1, λ clean. ((found.2 clean).0, λ no. (found.2 clean).1 (c.ledger_path.ensures.may_make ∙ no)));
    }
