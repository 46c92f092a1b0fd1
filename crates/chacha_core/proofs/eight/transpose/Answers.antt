use Rattle.std.proofs.Common.{arith}
use Rattle.chacha_core.proofs.LaneLemmas.{below_eight, turned_eight}
use Rattle.chacha_core.proofs.eight.transpose.Goals as goal

pub returns : goal.returns
returns c =
    let row = turned_eight c.args.a c.args.b c.args.c c.args.d c.args.e c.args.f c.args.g c.args.h
    c.fits-a.0 c.fits-c.0 c.fits-e.0 c.fits-g.0 in
    below_eight _ (row 0 (omega arith)) (row 1 (omega arith)) (row 2 (omega arith)) (row 3 (omega arith))
    (row 4 (omega arith)) (row 5 (omega arith)) (row 6 (omega arith)) (row 7 (omega arith))
