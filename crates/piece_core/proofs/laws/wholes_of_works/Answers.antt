use Rattle.piece_core.proofs.AnswerLemmas.{whole_of_sealing, opening-whole_of}
use Rattle.piece_core.proofs.laws.wholes_of_works.Goals as goal

pub returns-clause-sealing : goal.returns-clause-sealing
returns-clause-sealing c = whole_of_sealing

pub returns-clause-opening : goal.returns-clause-opening
returns-clause-opening c = opening-whole_of
