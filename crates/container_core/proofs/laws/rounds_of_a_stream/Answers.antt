use Rattle.container_core.proofs.StreamLemmas.{stream_by-true}
use Rattle.container_core.proofs.RoundLemmas.{is_nil-some, stream_by-append, stream_by-chunks, length-round}
use Rattle.container_core.proofs.laws.rounds_of_a_stream.Goals as goal

pub returns-clause-whole : goal.returns-clause-whole
returns-clause-whole c = stream_by-true

pub returns-clause-pieces : goal.returns-clause-pieces
returns-clause-pieces c = λ key header number last front rest some.
    stream_by-append key header number last front rest (is_nil-some rest some)

pub returns-clause-bytes : goal.returns-clause-bytes
returns-clause-bytes c = stream_by-chunks

pub returns-clause-length : goal.returns-clause-length
returns-clause-length c = length-round
