use Rattle.std.proofs.Common.{rules, ℕ, subst}
use Rattle.ledger_core.specs.Rule.{IsHeld}
use Rattle.ledger_core.proofs.Keeps.{settles_void}
use Rattle.ledger_core.proofs.steps.waste_step.Goals as goal

pub fetch_add-requires : goal.fetch_add-requires
fetch_add-requires g c =
    let t = c.requires.table in
    let o = subst (λ (n : ℕ). IsHeld n c.args.token.now.me.0.mine) c.requires.named c.requires.held in
    (t.same, search rules, settles_void _ _ _ _ _ t.one_seat o.granted o.unsettled)
