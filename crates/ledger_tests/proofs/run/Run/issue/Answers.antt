use Rattle.std.proofs.Common.{◌<◌, length, ap, arith}
use Rattle.ledger_core.specs.Shared.{LedgerView}
use Rattle.ledger_core.proofs.Callers.{all_after}
use Rattle.ledger_tests.proofs.run.Run.issue.Goals as goal

pub invariant_of-self : goal.invariant_of-self
invariant_of-self c =
    let all = c.self.invariant in
    let count = all.count in
    let seats = ap (λ (l : LedgerView). l.terms.seats) c.self.view_is in
    let within = c.requires in
    let inside : c.args.seat < length c.self.inside.seats.items = omega arith in
    all_after _ _ c.args.seat c.index_mut-seat.result.now c.issue.new.seat all inside c.index_mut-seat.ensures.value c.issue.ensures.same
