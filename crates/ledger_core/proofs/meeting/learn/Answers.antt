use Rattle.std.proofs.Common.{rules}
use Rattle.ledger_core.proofs.meeting.learn.Goals as goal

pub returns-clause-told : goal.returns-clause-told
returns-clause-told c = search rules
