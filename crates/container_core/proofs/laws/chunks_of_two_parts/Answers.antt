use Rattle.container_core.proofs.PartsLemmas.{chunks-append, length-whole_chunks, sealed_chunks-append}
use Rattle.container_core.proofs.PartsLemmas.{length-whole_sealed_chunks}
use Rattle.container_core.proofs.laws.chunks_of_two_parts.Goals as goal

pub returns-clause-chunks : goal.returns-clause-chunks
returns-clause-chunks c = chunks-append

pub returns-clause-count : goal.returns-clause-count
returns-clause-count c = length-whole_chunks

pub returns-clause-sealed : goal.returns-clause-sealed
returns-clause-sealed c = sealed_chunks-append

pub returns-clause-sealed_count : goal.returns-clause-sealed_count
returns-clause-sealed_count c = length-whole_sealed_chunks
