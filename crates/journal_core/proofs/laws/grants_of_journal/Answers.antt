use Rattle.journal_core.proofs.Prefixes.{grants_once}
use Rattle.journal_core.proofs.laws.grants_of_journal.Goals as goal

pub returns : goal.returns
returns c = let sound = c.entries-legal.ensures.legal in grants_once _ _ sound.lawful sound.legal
