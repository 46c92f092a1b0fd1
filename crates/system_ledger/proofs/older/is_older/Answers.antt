use Rattle.std.proofs.Common.{rules, refl}
use Rattle.std.proofs.lemmas.List.{get_or_default}
use Rattle.system_ledger.proofs.older.is_older.Goals as goal

pub returns-then-ends_before : goal.returns-then-ends_before
returns-then-ends_before c =
    let before = c.ends_before.ensures.0 (search rules) in
    let same = get_or_default c.args.held.now c.loop-holding.holding-index _ _ c.loop-holding-test.true in
    (λ _. (c.loop-holding.holding-index, _, c.loop-holding-test.true, same, before), λ _. refl)
