use Rattle.journal_core.proofs.Prefixes.{prefix_tells}
use Rattle.journal_core.proofs.laws.a_prefix_tells_its_number.Goals as goal

pub returns : goal.returns
returns c = prefix_tells
