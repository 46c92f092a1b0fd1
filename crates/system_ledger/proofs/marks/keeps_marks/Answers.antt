use Rattle.std.proofs.Common.{rules, sym, subst, ◌∙◌, IsTrue}
use Rattle.std.specs.List.{Any}
use Rattle.std.proofs.lemmas.List.{get_or_default}
use Rattle.std.proofs.lemmas.List.Elements.{AllWithin-more}
use Rattle.system_ledger.specs.Marks.{IsKeptBy}
use Rattle.system_ledger.proofs.marks.keeps_marks.Goals as goal

pub returns-then-not-is_kept : goal.returns-then-not-is_kept
returns-then-not-is_kept c = record {
  kept = (
    λ no. search rules,
    λ all. subst IsTrue c.if-not-is_kept.true (c.is_kept.ensures.1 (subst (λ mark. Any (IsKeptBy mark) c.args.others.now) (sym c.mark-item.is)
        (all c.loop-mark.mark-index c.mark-item.result c.loop-mark-test.true))),
  );
}

pub loop-mark-preserved : goal.loop-mark-preserved
loop-mark-preserved c =
    AllWithin-more (λ mark. Any (IsKeptBy mark) c.args.others.now) c.args.marks.now 0 c.loop-mark.mark-index c.loop-mark.invariant
    (λ d. subst (λ mark. Any (IsKeptBy mark) c.args.others.now)
    (c.mark-item.is ∙ get_or_default c.args.marks.now c.loop-mark.mark-index c.mark-item.result d c.loop-mark-test.true)
    (c.is_kept.ensures.0 (search rules)))
