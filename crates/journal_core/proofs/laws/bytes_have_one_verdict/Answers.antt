use Rattle.journal_core.proofs.Unique.{same_verdict}
use Rattle.journal_core.proofs.laws.bytes_have_one_verdict.Goals as goal

pub returns : goal.returns
returns c = same_verdict
