use Rattle.chacha_core.proofs.LaneLemmas.{roll_lanes}
use Rattle.chacha_core.proofs.eight.xor_roll.Goals as goal

pub returns : goal.returns
returns c = roll_lanes _ c.args.k c.requires.0 c.requires.1 c.args.a c.args.b c.fits-a.0 c.fits-b.0
