use Rattle.std.proofs.Common.{refl}
use Rattle.sealing_core.specs.Pieces.{block}
use Rattle.sealing_core.proofs.RoundLemmas.{hand_none}
use Rattle.sealing_core.proofs.round.Round.new.Goals as goal

pub returns-in-Ok-clause-hand : goal.returns-in-Ok-clause-hand
returns-in-Ok-clause-hand c = λ each key header left limit some.
    let fresh = c.new.ensures.fresh in
    hand_none each key header left limit _ (c.new.ensures.read left (block each header) limit some) fresh.0 fresh.2 c.in-Ok.ensures.items refl
