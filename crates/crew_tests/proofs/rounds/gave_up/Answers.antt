use Rattle.std.proofs.Common.{rules, arith, ◌≡◌, ◌+◌, ◌*◌, ◌≤◌, length, refl}
use Rattle.crew_tests.proofs.RoundLemmas.{few-chunks}
use Rattle.crew_tests.proofs.rounds.gave_up.Goals as goal

pub seal_round-requires-clause-numbers : goal.seal_round-requires-clause-numbers
seal_round-requires-clause-numbers g c κs within =
    let few = few-chunks _ (length c.args.plain.now) c.header_one-header.ensures.size (omega (arith, c.requires.plain)) in
    omega (arith, few)
