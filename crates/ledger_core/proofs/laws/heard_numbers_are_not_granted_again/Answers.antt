use Rattle.ledger_core.proofs.Heard.{not_again}
use Rattle.ledger_core.proofs.laws.heard_numbers_are_not_granted_again.Goals as goal

pub returns : goal.returns
returns c = λ shown old new number heard does knows. not_again shown old new number heard does knows
