use Rattle.ledger_core.proofs.Meetings.{whole_of_met}
use Rattle.ledger_core.proofs.laws.seats_that_met_have_one_history.Goals as goal

pub returns : goal.returns
returns c = whole_of_met
