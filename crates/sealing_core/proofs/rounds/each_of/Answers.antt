use Rattle.std.proofs.Common.{arith, ◌*◌, ◌-◌, ◌≤◌}
use Rattle.std.proofs.Math.Nat.{div-mul-le_self, mul-le-mul_right, sub-le}
use Rattle.sealing_core.proofs.rounds.each_of.Goals as goal

pub fewer-init : goal.fewer-init
fewer-init c = div-mul-le_self 65536 c.args.size

pub fewer-preserved : goal.fewer-preserved
fewer-preserved c =
    let less : (c.fewer.each - 1) * c.args.size ≤ c.fewer.each * c.args.size = mul-le-mul_right c.args.size (sub-le c.fewer.each 1) in
    let was = c.fewer.invariant in
    omega (arith, less, was)
