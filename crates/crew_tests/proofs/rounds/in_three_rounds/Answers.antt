use Rattle.std.proofs.Common.{rules, arith, ◌≡◌, ◌+◌, ◌*◌, ◌≤◌, length, refl}
use Rattle.crew_tests.proofs.RoundLemmas.{few-chunks, whole-chunks}
use Rattle.crew_tests.proofs.rounds.in_three_rounds.Goals as goal

pub seal_round-round-requires-clause-numbers : goal.seal_round-round-requires-clause-numbers
seal_round-round-requires-clause-numbers g c κs within =
    let few = few-chunks _ (length c.split_at.result.0.now) c.header_one-header.ensures.size (search rules) in
    omega (arith, few)

pub seal_round-round-requires-clause-whole : goal.seal_round-round-requires-clause-whole
seal_round-round-requires-clause-whole g c κs within more =
    whole-chunks _ (length c.split_at.result.0.now) 7 c.header_one-header.ensures.size (search rules) (omega arith)

pub seal_round-round-requires-2-clause-numbers : goal.seal_round-round-requires-2-clause-numbers
seal_round-round-requires-2-clause-numbers g c κs within =
    let few = few-chunks _ (length c.split_at-2.result.0.now) c.header_one-header.ensures.size (search rules) in
    omega (arith, few)

pub seal_round-round-requires-2-clause-whole : goal.seal_round-round-requires-2-clause-whole
seal_round-round-requires-2-clause-whole g c κs within more =
    whole-chunks _ (length c.split_at-2.result.0.now) 1 c.header_one-header.ensures.size (search rules) (omega arith)

pub seal_round-round-requires-3-clause-numbers : goal.seal_round-round-requires-3-clause-numbers
seal_round-round-requires-3-clause-numbers g c κs within =
    let few = few-chunks _ (length c.split_at-2.result.1.now) c.header_one-header.ensures.size (search rules) in
    omega (arith, few)
