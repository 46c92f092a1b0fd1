use Rattle.std.proofs.Common.{arith}
use Rattle.chacha_core.proofs.LaneLemmas.{below_four, turned_four}
use Rattle.chacha_core.proofs.four.transpose.Goals as goal

pub returns : goal.returns
returns c =
    let row = turned_four c.args.a c.args.b c.args.c c.args.d c.fits-a.0 c.fits-c.0 in
    below_four _ (row 0 (omega arith)) (row 1 (omega arith)) (row 2 (omega arith)) (row 3 (omega arith))
