use Rattle.std.proofs.Common.{IfSome, ap, rules, subst, ◌∙◌}
use Rattle.ledger_core.specs.Rule.{IsHeld}
use Rattle.ledger_core.specs.Shared.{GrantView}
use Rattle.ledger_core.proofs.ledger.Ledger.issue.Goals as goal
use Rattle.ledger_core.proofs.ledger.Ledger.issue.Goals.{in-Some, in-None}

pub issue_in-number-requires-clause-room : goal.issue_in-number-requires-clause-room
issue_in-number-requires-clause-room c = search rules

pub returns-clause-held : goal.returns-clause-held
returns-clause-held c = elim c.match-number.branch [
  | in-Some w ↦
      let held = subst (λ o. IfSome o (λ n. IsHeld n c.issue_in-number.new.fields.token.me.0.mine)) w.in-Some.is c.issue_in-number.ensures.held in
      let device = ap (λ (g : GrantView). g.device) w.of.ensures ∙ w.device.ensures in
      let number = ap (λ (g : GrantView). g.number) w.of.ensures in
      rw w.result-is (λ way. (device, rw number held.granted, rw number held.unsettled))
  | in-None w ↦ rw w.result-is tt
]
