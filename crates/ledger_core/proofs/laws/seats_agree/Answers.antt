use Rattle.ledger_core.proofs.Meetings.{agree}
use Rattle.ledger_core.proofs.laws.seats_agree.Goals as goal

pub returns : goal.returns
returns c = λ terms seats history i j one other whole here there. agree history one other (whole.each i one here) (whole.each j other there)
