use Rattle.poly_core.proofs.AbsorbedLemmas.{take-pad16}
use Rattle.poly_core.proofs.mac.Mac.pad.Goals as goal

pub returns : goal.returns
returns c = λ key message held.
    rw (take-pad16 c.args.self.now key message c.lacking-lacking.result held c.lacking-lacking.ensures.value) at
    (c.take_in.ensures.absorbed key message held)
