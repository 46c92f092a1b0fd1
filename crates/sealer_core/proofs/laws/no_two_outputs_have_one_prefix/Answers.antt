use Rattle.sealer_core.proofs.Numbered.{one_prefix}
use Rattle.sealer_core.proofs.laws.no_two_outputs_have_one_prefix.Goals as goal

pub returns : goal.returns
returns c key runs one other are at also = one_prefix key runs are one other at also
