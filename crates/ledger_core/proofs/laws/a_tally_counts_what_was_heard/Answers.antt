use Rattle.journal_core.specs.History.{is_granted, is_exhausted, is_sealed, is_void}
use Rattle.ledger_core.proofs.Heard.{count_front}
use Rattle.ledger_core.proofs.laws.a_tally_counts_what_was_heard.Goals as goal

pub returns-clause-granted : goal.returns-clause-granted
returns-clause-granted c = count_front is_granted

pub returns-clause-refused : goal.returns-clause-refused
returns-clause-refused c = count_front is_exhausted

pub returns-clause-sealed : goal.returns-clause-sealed
returns-clause-sealed c = count_front is_sealed

pub returns-clause-void : goal.returns-clause-void
returns-clause-void c = count_front is_void
