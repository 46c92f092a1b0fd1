use Rattle.std.proofs.Common.{rules, arith, ◌≡◌, ◌+◌, ◌*◌, ◌≤◌, length, refl}
use Rattle.crew_tests.proofs.RoundLemmas.{one-chunk}
use Rattle.crew_tests.proofs.rounds.a_round_has_the_last_number.Goals as goal

pub seal_round-requires-clause-numbers : goal.seal_round-requires-clause-numbers
seal_round-requires-clause-numbers g c κs =
    let one = one-chunk _ 6 c.header_one-header.ensures.size (omega arith) in omega (arith, one)
