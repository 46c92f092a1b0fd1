use Rattle.container_core.proofs.PartsLemmas.{count-one, count-whole, count-more, body-count, count-enough, count-tight}
use Rattle.container_core.proofs.PartsLemmas.{count-some, count-grows}
use Rattle.container_core.proofs.laws.chunks_counted.Goals as goal

pub returns-clause-one : goal.returns-clause-one
returns-clause-one c = count-one

pub returns-clause-whole : goal.returns-clause-whole
returns-clause-whole c = count-whole

pub returns-clause-more : goal.returns-clause-more
returns-clause-more c = count-more

pub returns-clause-bytes : goal.returns-clause-bytes
returns-clause-bytes c = body-count

pub returns-clause-enough : goal.returns-clause-enough
returns-clause-enough c = count-enough

pub returns-clause-tight : goal.returns-clause-tight
returns-clause-tight c = count-tight

pub returns-clause-some : goal.returns-clause-some
returns-clause-some c = count-some

pub returns-clause-grows : goal.returns-clause-grows
returns-clause-grows c = count-grows
