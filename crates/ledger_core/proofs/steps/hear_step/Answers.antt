use Rattle.std.proofs.Common.{rules, ◌∙◌}
use Rattle.ledger_core.proofs.Keeps.{hears_it}
use Rattle.ledger_core.proofs.steps.hear_step.Goals as goal

pub join_seat-requires : goal.join_seat-requires
join_seat-requires c = let t = c.requires.table in let n = c.requires.note in (t.same, n.0 ∙ t.same, n.1, search rules, hears_it _ _ _ _ _)
