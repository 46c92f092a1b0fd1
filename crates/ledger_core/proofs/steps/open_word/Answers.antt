use Rattle.ledger_core.proofs.Keeps.{begins}
use Rattle.ledger_core.proofs.steps.open_word.Goals as goal

pub of_words-requires : goal.of_words-requires
of_words-requires c = begins _ c.requires
