use Rattle.std.proofs.Common.{subst}
use Rattle.journal_core.specs.History.{Legal}
use Rattle.journal_core.proofs.Histories.{legal_front}
use Rattle.journal_core.proofs.laws.a_beginning_is_legal.Goals as goal

pub returns : goal.returns
returns c = λ terms front whole legal begins. legal_front terms front begins.0 (subst (Legal terms) begins.1 legal)
