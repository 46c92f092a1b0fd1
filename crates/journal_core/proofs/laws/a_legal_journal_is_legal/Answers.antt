use Rattle.journal_core.proofs.Unique.{legal_verdict}
use Rattle.journal_core.proofs.laws.a_legal_journal_is_legal.Goals as goal

pub returns : goal.returns
returns c = legal_verdict
