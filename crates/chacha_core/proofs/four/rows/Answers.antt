use Rattle.std.proofs.Common.{arith}
use Rattle.chacha_core.proofs.LaneLemmas.{below_sixteen}
use Rattle.chacha_core.proofs.four.rows.Goals as goal

pub returns : goal.returns
returns c = below_sixteen _
    (c.transpose-r.ensures 0 (omega arith)) (c.transpose-s.ensures 0 (omega arith)) (c.transpose-t.ensures 0 (omega arith)) (c.transpose-u.ensures 0 (omega arith))
    (c.transpose-r.ensures 1 (omega arith)) (c.transpose-s.ensures 1 (omega arith)) (c.transpose-t.ensures 1 (omega arith)) (c.transpose-u.ensures 1 (omega arith))
    (c.transpose-r.ensures 2 (omega arith)) (c.transpose-s.ensures 2 (omega arith)) (c.transpose-t.ensures 2 (omega arith)) (c.transpose-u.ensures 2 (omega arith))
    (c.transpose-r.ensures 3 (omega arith)) (c.transpose-s.ensures 3 (omega arith)) (c.transpose-t.ensures 3 (omega arith)) (c.transpose-u.ensures 3 (omega arith))
