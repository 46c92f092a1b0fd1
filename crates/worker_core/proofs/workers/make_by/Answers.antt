use Rattle.std.proofs.Common.{rules}
use Rattle.worker_core.proofs.Making.{made_closed, made_alone, worked_first}
use Rattle.worker_core.proofs.workers.make_by.Goals as goal

pub returns-in-Some-clause-made : goal.returns-in-Some-clause-made
returns-in-Some-clause-made g c = made_closed _ _ _ _ _ (search rules) c.crew-done.ensures.drawn c.close.ensures

pub returns-clause-made : goal.returns-clause-made
returns-clause-made g c = made_alone _ _ _ c.requires.workers.0 c.work_alone.ensures.all

pub returns-clause-worked : goal.returns-clause-worked
returns-clause-worked g c = worked_first _ _ _ _ c.requires.ready c.requires.workers.0 c.work_alone.ensures.worked
