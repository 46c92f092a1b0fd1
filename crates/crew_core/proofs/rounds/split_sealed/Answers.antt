use Rattle.std.proofs.Common.{◌≡◌, ℕ, ◌+◌, ◌*◌, ◌-◌, ◌<◌, List, length, subst, ap, ◌∙◌, arith, length-take-le}
use Rattle.std.proofs.lemmas.List.{length-drop}
use Rattle.crew_core.proofs.RoundLemmas.{round-body, round-fits, round-left}
use Rattle.crew_core.proofs.rounds.split_sealed.Goals as goal

pub returns-clause-fits : goal.returns-clause-fits
returns-clause-fits c = round-fits c.args.size c.args.count c.args.plain c.requires.size c.requires.count
    (subst (λ (n : ℕ). c.args.count * (c.args.size + 16) < n) c.requires.body c.requires.full)

pub returns-clause-counted : goal.returns-clause-counted
returns-clause-counted c = (round-left c.args.size c.args.count c.args.plain c.requires.size (returns-clause-fits c)).0

pub returns-clause-left : goal.returns-clause-left
returns-clause-left c =
    let step = c.args.count * (c.args.size + 16) in
    let back : length c.split_at.result.1.now ≡ length c.args.rest.now - step =
    ap (λ (l : List ℕ). length l) c.split_at.ensures.back ∙ length-drop step c.args.rest.now in
    let left = (round-left c.args.size c.args.count c.args.plain c.requires.size (returns-clause-fits c)).1 in
    omega (arith, back, left, c.requires.body)

pub returns-clause-round : goal.returns-clause-round
returns-clause-round c =
    let step = c.args.count * (c.args.size + 16) in
    ap (λ (l : List ℕ). length l) c.split_at.ensures.front
    ∙ length-take-le step c.args.rest.now (omega (arith, c.requires.full))
    ∙ round-body c.args.size c.args.count c.requires.size c.requires.count
