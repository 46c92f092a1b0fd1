use Rattle.ledger_core.proofs.Seats.{seat_adopts}
use Rattle.ledger_core.proofs.meeting.adopt_in.Goals as goal

pub returns-clause-seat : goal.returns-clause-seat
returns-clause-seat c = let l = c.adopt_step.ensures in seat_adopts _ _ _ _ _ _ _ _ _ c.requires.seat l.step.1 c.requires.further l.step.2 l.table.1
