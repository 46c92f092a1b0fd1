use Rattle.std.proofs.Common.{rules}
use Rattle.ledger_core.proofs.seat.reply.Goals as goal

pub returns-then-issues-size : goal.returns-then-issues-size
returns-then-issues-size c = search rules
