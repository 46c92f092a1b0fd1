use Rattle.std.proofs.Common.{ap, rules, ◌∙◌}
use Rattle.system_files.proofs.Splits.{more_kept, more_others}
use Rattle.system_files.proofs.kept.split_names.Goals.{then-has_kept_output+in_ok-push, else-has_kept_output+in_ok-push-2}
use Rattle.system_files.proofs.kept.split_names.Goals as goal

pub loop-name-preserved : goal.loop-name-preserved
loop-name-preserved g c =
    let so_far = c.loop-name.invariant in
    elim c.if-has_kept_output.branch [
      | then-has_kept_output+in_ok-push w ↦
          let more = ap (λ v. v.items) w.kept-is ∙ w.in_ok-push.ensures.items in
          let same = ap (λ v. v.items) w.others-is in (
            more_kept c.args.names.now c.loop-name.name-index _ c.loop-name.kept.items c.loop-name.others.items
                c.if-has_kept_output.kept.items c.if-has_kept_output.others.items c.loop-name-test.true more same so_far.0,
            λ nothing. search rules,
          )
      | else-has_kept_output+in_ok-push-2 w ↦
          let same = ap (λ v. v.items) w.kept-is in
          let more = ap (λ v. v.items) w.others-is ∙ w.in_ok-push-2.ensures.items in (
            more_others c.args.names.now c.loop-name.name-index _ c.loop-name.kept.items c.loop-name.others.items
                c.if-has_kept_output.kept.items c.if-has_kept_output.others.items c.loop-name-test.true same more so_far.0,
            λ nothing. same ∙ so_far.1 nothing,
          )
    ]
