use Rattle.std.proofs.Common.{rules, sym, refl}
use Rattle.system_ledger.proofs.marks.is_kept.Goals as goal

pub returns-then-keeps : goal.returns-then-keeps
returns-then-keeps c =
    let kept = c.keeps.ensures.0 (search rules) in
    (λ _. (c.loop-other.other-index, c.other-item.result, c.loop-other-test.true, sym c.other-item.is, kept), λ _. refl)
