use Rattle.ledger_core.proofs.Callers.{all_met}
use Rattle.ledger_tests.proofs.run.meet_everyone.Goals as goal

pub returns : goal.returns
returns c = let met = c.meet_all.ensures in all_met _ _ _ met.0 c.requires met.1
