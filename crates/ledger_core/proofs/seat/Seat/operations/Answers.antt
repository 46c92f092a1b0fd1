use Rattle.std.proofs.Common.{arith}
use Rattle.ledger_core.proofs.Seats.{few_operations}
use Rattle.ledger_core.proofs.seat.Seat.operations.Goals as goal

pub returns-clause-few : goal.returns-clause-few
returns-clause-few c = let f = few_operations _ _ _ _ _ _ c.self.invariant in let l = c.len.ensures in omega arith
