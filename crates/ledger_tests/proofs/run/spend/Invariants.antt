use Rattle.ledger_core.specs.Shared.{IsSameSeat}
use Rattle.ledger_tests.proofs.run.spend.Given as goal

abbrev pub invariant-loop : goal.invariant-loop
invariant-loop l = IsSameSeat l.initial.seat l.seat
