use Rattle.std.proofs.Common.{rules}
use Rattle.ledger_core.proofs.ledger.Ledger.settle.Goals as goal

pub settle_in-requires-clause-held : goal.settle_in-requires-clause-held
settle_in-requires-clause-held c = search rules

pub returns-clause-settled : goal.returns-clause-settled
returns-clause-settled c = search rules
