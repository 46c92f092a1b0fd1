use Rattle.ledger_core.proofs.Seats.{seat_looks}
use Rattle.ledger_core.proofs.seat.look_in.Goals as goal

pub returns-clause-seat : goal.returns-clause-seat
returns-clause-seat c = let l = c.look_step.ensures in seat_looks _ _ _ _ _ _ _ _ _ c.requires.seat l.step.1 l.step.2 l.table.1
