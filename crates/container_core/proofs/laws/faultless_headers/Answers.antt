use Rattle.container_core.proofs.HeaderLemmas.{good_header, header-faultless}
use Rattle.container_core.proofs.laws.faultless_headers.Goals as goal

pub returns-clause-shape : goal.returns-clause-shape
returns-clause-shape c = λ key bytes none. (good_header key bytes none).shape

pub returns-clause-header : goal.returns-clause-header
returns-clause-header c = header-faultless

pub returns-clause-enough : goal.returns-clause-enough
returns-clause-enough c = λ key bytes none. (good_header key bytes none).whole
