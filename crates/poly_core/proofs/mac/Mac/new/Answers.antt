use Rattle.std.proofs.Common.{refl}
use Rattle.poly_core.proofs.AbsorbedLemmas.{Absorbed-nothing}
use Rattle.poly_core.proofs.mac.Mac.new.Goals as goal

pub returns : goal.returns
returns c = Absorbed-nothing _ c.args.key.now c.key_r.ensures.value c.key_s.ensures refl refl
