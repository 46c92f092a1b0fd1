use Rattle.std.proofs.Common.{rules}
use Rattle.ledger_core.proofs.Callers.{all_after}
use Rattle.batch_tests.proofs.run.Run.settled.Goals as goal

pub invariant_of-self : goal.invariant_of-self
invariant_of-self c =
    all_after _ _ c.args.seat c.index_mut-seat.result.now c.settle.new.seat c.self.invariant (search rules) c.index_mut-seat.ensures.value c.settle.ensures.same
