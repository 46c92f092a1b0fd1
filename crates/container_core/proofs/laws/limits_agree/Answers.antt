use Rattle.container_core.proofs.LawLemmas.{opening-limits}
use Rattle.container_core.proofs.laws.limits_agree.Goals as goal

pub returns : goal.returns
returns c = λ key bytes most more few within. opening-limits key most more bytes few within
