use Rattle.piece_core.proofs.AnswerLemmas.{IsShelfOf-empty_shelf, IsShelfOf-with_piece}
use Rattle.piece_core.proofs.laws.shelves_of_a_work.Goals as goal

pub returns-clause-empty : goal.returns-clause-empty
returns-clause-empty c = IsShelfOf-empty_shelf

pub returns-clause-filled : goal.returns-clause-filled
returns-clause-filled c = IsShelfOf-with_piece
