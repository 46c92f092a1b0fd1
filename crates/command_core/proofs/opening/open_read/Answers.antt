use Rattle.command_core.proofs.opening.open_read.Goals as goal

pub open_once-requires-clause-open : goal.open_once-requires-clause-open
open_once-requires-clause-open g c κs within = (c.args.name.now, c.requires.open)
