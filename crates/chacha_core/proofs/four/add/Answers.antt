use Rattle.chacha_core.proofs.LaneLemmas.{add_lanes}
use Rattle.chacha_core.proofs.four.add.Goals as goal

pub returns : goal.returns
returns c = add_lanes _ c.args.a c.args.b c.fits-a.0 c.fits-b.0
