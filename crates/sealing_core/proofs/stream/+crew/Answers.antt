use Rattle.std.proofs.Common.{rules, arith, ℕ, ◌∙◌, sym, ap, subst}
use Rattle.crossbeam_queue.specs.Passes.{view}
use Rattle.sealing_core.specs.Hands.{HasAll}
use Rattle.sealing_core.specs.declared.line.Hand.{Hand}
use Rattle.sealing_core.specs.declared.line.Hands.{Hands}
use Rattle.sealing_core.proofs.Orders.{all_alone, none_on_err, on_each, on_one}
use Rattle.sealing_core.proofs.Moves.{forks}
use Rattle.sealing_core.proofs.stream.+crew.Goals as goal
use Rattle.sealing_core.proofs.stream.+crew.Goals.{then-is_err, else-is_err}

pub returns-then-upto-eq1-clause-all : goal.returns-then-upto-eq1-clause-all
returns-then-upto-eq1-clause-all g t c =
    let back = view c.if-is_err.hands.from in
    elim c.if-is_err.branch [
      | then-is_err w ↦ none_on_err ((n : ℕ) × HasAll n (view c.stop_all.new.into) back) c.feed-answer.result (sym c.is_err.ensures.value ∙ w.if-is_err.true)
      | else-is_err w ↦
          let mine = view c.feed-answer.new.hands.into in
          let theirs = view c.feed-answer.new.hands.from in
          let same = c.stop_all.ensures.into.1 ∙ ap (λ (h : Hands). view h.into) w.hands-is in
          let kept = ap (λ (h : Hands). view h.from) w.hands-is in
          on_one c.feed-answer.result c.feed-answer.ensures.seen
          (λ s. (
            s.0,
            subst (λ (v : Hand). HasAll s.0 v back) (sym same)
                (subst (λ (v : Hand). HasAll s.0 mine v) (sym kept) (all_alone s.0 mine theirs s.1 s.2 s.3)),
          ))
    ]

pub another-theirs-requires-clause-rule : goal.another-theirs-requires-clause-rule
another-theirs-requires-clause-rule g t c = let r = c.requires.into.1 in let n = c.if-upto-eq1.false in forks _ _ _ _ (omega arith)

pub another-back-requires-clause-rule : goal.another-back-requires-clause-rule
another-back-requires-clause-rule g t c = let r = c.requires.from.1 in let n = c.if-upto-eq1.false in forks _ _ _ _ (omega arith)

pub returns-clause-all : goal.returns-clause-all
returns-clause-all g t c = on_each c.meet.ensures.all c.join_mut-answer.result.1 (search rules)
