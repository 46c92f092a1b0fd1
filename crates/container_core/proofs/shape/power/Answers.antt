use Rattle.std.proofs.Common.{◌^◌, ◌≤◌, arith}
use Rattle.std.proofs.Math.Nat.{pow-le-pow_right}
use Rattle.container_core.proofs.shape.power.Goals as goal

pub returns-clause-least : goal.returns-clause-least
returns-clause-least c =
    let more : 2 ^ 12 ≤ 2 ^ c.args.exponent = pow-le-pow_right {n = 2} (omega arith) {j = c.args.exponent} c.requires.0 in
    let few : 2 ^ c.args.exponent ≤ 2 ^ 20 = pow-le-pow_right {n = 2} (omega arith) {j = 20} c.requires.1 in
    omega (arith, more, few)

pub returns-clause-most : goal.returns-clause-most
returns-clause-most c =
    let few : 2 ^ c.args.exponent ≤ 2 ^ 20 = pow-le-pow_right {n = 2} (omega arith) {j = 20} c.requires.1 in
    omega (arith, few)
