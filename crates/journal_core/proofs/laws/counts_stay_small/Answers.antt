use Rattle.std.proofs.Common.{arith}
use Rattle.journal_core.proofs.Bounds.{within, few_refusals}
use Rattle.journal_core.proofs.Owners.{settled_were_granted}
use Rattle.journal_core.proofs.laws.counts_stay_small.Goals as goal

pub returns : goal.returns
returns c = λ terms history lawful legal.
    let size = lawful.range.few in
    let seats = lawful.few_seats in
    let most = (within terms history legal).0 in
    let refusals = few_refusals terms history legal in
    ((omega arith), (omega arith), settled_were_granted terms history legal)
