use Rattle.std.proofs.Common.{sym, subst}
use Rattle.chacha_core.proofs.RollLemmas.{IsMoved, four_by_16, roll_16_lanes}
use Rattle.chacha_core.proofs.four.xor_roll_16.Goals as goal

pub returns : goal.returns
returns c =
    roll_16_lanes 4 c.args.a c.args.b c.args.rolls.now.by_16 c.fits-a.0 c.fits-b.0 c.fits-a.1 c.fits-b.1
    (subst (IsMoved 4 2 3 0 1) (sym c.requires) four_by_16)
