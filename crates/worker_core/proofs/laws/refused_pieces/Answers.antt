use Rattle.worker_core.proofs.LawLemmas.{all_have_bytes, refused_has_none, before_have_bytes}
use Rattle.worker_core.proofs.laws.refused_pieces.Goals as goal

pub returns-clause-none : goal.returns-clause-none
returns-clause-none c = all_have_bytes

pub returns-clause-refused : goal.returns-clause-refused
returns-clause-refused c = refused_has_none

pub returns-clause-before : goal.returns-clause-before
returns-clause-before c = before_have_bytes
