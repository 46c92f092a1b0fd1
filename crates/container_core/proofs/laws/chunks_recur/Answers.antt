use Rattle.container_core.proofs.PartsLemmas.{chunks-short, chunks-long, sealed_chunks-short, sealed_chunks-long}
use Rattle.container_core.proofs.laws.chunks_recur.Goals as goal

pub returns-clause-short : goal.returns-clause-short
returns-clause-short c = chunks-short

pub returns-clause-long : goal.returns-clause-long
returns-clause-long c = chunks-long

pub returns-clause-short_sealed : goal.returns-clause-short_sealed
returns-clause-short_sealed c = sealed_chunks-short

pub returns-clause-long_sealed : goal.returns-clause-long_sealed
returns-clause-long_sealed c = sealed_chunks-long
