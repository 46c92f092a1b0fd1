use Rattle.std.proofs.Common.{rules, arith}
use Rattle.ledger_core.proofs.Keeps.{adopts}
use Rattle.ledger_core.proofs.steps.adopt_step.Goals as goal

pub load-requires : goal.load-requires
load-requires c = let t = c.requires.table in (t.same, search rules, adopts _ _ _ _ (omega arith))
