use Rattle.std.proofs.Common.{sym, subst}
use Rattle.chacha_core.proofs.RollLemmas.{IsMoved, eight_by_8, roll_8_lanes}
use Rattle.chacha_core.proofs.eight.xor_roll_8.Goals as goal

pub returns : goal.returns
returns c =
    roll_8_lanes 8 c.args.a c.args.b c.args.rolls.now.by_8 c.fits-a.0 c.fits-b.0 c.fits-a.1 c.fits-b.1
    (subst (IsMoved 8 3 0 1 2) (sym c.requires) eight_by_8)
