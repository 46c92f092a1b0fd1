use Rattle.std.proofs.Common.{◌/◌, ◌≤◌, arith}
use Rattle.std.proofs.Math.Nat.{div-mul-le_self, le-div_iff_mul-le, div-le_of_le-mul}
use Rattle.crew_core.proofs.rounds.chunks_of_round.Goals as goal

pub returns-clause-some : goal.returns-clause-some
returns-clause-some c =
    let some : 1 ≤ 4194304 / c.args.size = (le-div_iff_mul-le {k = c.args.size} (omega (arith, c.requires.0))).1 (omega (arith, c.requires.1)) in
    omega (arith, some)

pub returns-clause-few : goal.returns-clause-few
returns-clause-few c = div-le_of_le-mul c.args.size (omega (arith, c.requires.0))

pub returns-clause-bytes : goal.returns-clause-bytes
returns-clause-bytes c = div-mul-le_self 4194304 c.args.size
