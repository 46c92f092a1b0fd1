use Rattle.ledger_core.proofs.Callers.{all_met}
use Rattle.sealer_core.proofs.Sessions.{met_mine, met_once}
use Rattle.sealer_core.proofs.group.meet_seats.Goals as goal

pub returns-clause-all : goal.returns-clause-all
returns-clause-all c = let (history, met) = c.meet_all.ensures in all_met _ _ _ history c.requires.all met

pub returns-clause-mine : goal.returns-clause-mine
returns-clause-mine c = let (history, met) = c.meet_all.ensures in met_mine _ _ history met

pub returns-clause-once : goal.returns-clause-once
returns-clause-once c = let (history, met) = c.meet_all.ensures in met_once _ _ _ history c.requires.all met
