use Rattle.std.proofs.Common.{rules}
use Rattle.ledger_core.proofs.Keeps.{cuts}
use Rattle.ledger_core.proofs.steps.deal_step.Goals as goal

pub split_seat-requires : goal.split_seat-requires
split_seat-requires c = let t = c.requires.table in let n = c.requires.new in (t.0, search rules, cuts _ _ _ n.0 n.1)
