use Rattle.crew_core.proofs.Callers.{all_after_batch}
use Rattle.batch_tests.proofs.run.seal_in.Goals as goal

pub returns-clause-all : goal.returns-clause-all
returns-clause-all g c = all_after_batch _ _ _ c.seal_batch.auto.seats c.seal_batch.ensures.seen c.requires.all
