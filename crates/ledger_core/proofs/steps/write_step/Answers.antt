use Rattle.std.proofs.Common.{rules}
use Rattle.ledger_core.proofs.Keeps.{writes}
use Rattle.ledger_core.proofs.steps.write_step.Goals as goal

pub split_seat-requires : goal.split_seat-requires
split_seat-requires c = let t = c.requires.table in (t.same, search rules, writes _ _ _)
