use Rattle.std.proofs.Common.{[]}
use Rattle.container_core.proofs.PartsLemmas.{length-chunks, get_or-chunks, length-sealed_chunks}
use Rattle.container_core.proofs.laws.chunks_by_number.Goals as goal

pub returns-clause-count : goal.returns-clause-count
returns-clause-count c = length-chunks

pub returns-clause-chunk : goal.returns-clause-chunk
returns-clause-chunk c = λ size plain number some below. get_or-chunks size plain number [] some below

pub returns-clause-sealed_count : goal.returns-clause-sealed_count
returns-clause-sealed_count c = length-sealed_chunks
