use Rattle.std.proofs.Common.{rules}
use Rattle.ledger_core.proofs.Keeps.{issues}
use Rattle.ledger_core.proofs.steps.issue_step.Goals as goal

pub fetch_add-requires : goal.fetch_add-requires
fetch_add-requires c = let t = c.requires.table in (t.same, search rules, issues _ _ _ _ t.one_seat c.requires.clear)
