use Rattle.journal_core.proofs.Verdicts.{some_verdict}
use Rattle.journal_core.proofs.laws.bytes_have_a_verdict.Goals as goal

pub returns : goal.returns
returns c = some_verdict
