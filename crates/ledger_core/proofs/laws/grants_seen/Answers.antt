use Rattle.journal_core.proofs.Prefixes.{grants_once}
use Rattle.ledger_core.proofs.laws.grants_seen.Goals as goal

pub returns : goal.returns
returns c = grants_once _ _ c.number-knows.ensures.knows.lawful c.number-knows.ensures.knows.legal
