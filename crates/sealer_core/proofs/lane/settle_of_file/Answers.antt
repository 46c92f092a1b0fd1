use Rattle.sealer_core.proofs.Numbering.{settled_now}
use Rattle.sealer_core.proofs.lane.settle_of_file.Goals as goal

pub returns-clause-settled : goal.returns-clause-settled
returns-clause-settled c = (settled_now _ (c.settle.ensures.held c.requires.held) c.settle.ensures.settled).1
