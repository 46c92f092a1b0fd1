use Rattle.std.proofs.Common.{sym, subst, [], ◌∷◌, ◌++◌}
use Rattle.journal_core.specs.Judged.{Judged}
use Rattle.journal_core.proofs.Reading.{wrong_more, start_more}
use Rattle.journal_core.proofs.state.State.step.Goals as goal
use Rattle.journal_core.proofs.state.State.step.Goals.{in-Start+in_ok-next-in-Start, in-Sound+in-Some}

pub returns-in-Wrong : goal.returns-in-Wrong
returns-in-Wrong c = λ lines whole same at judged. wrong_more _ _ lines whole c.in-Wrong.is judged

pub returns : goal.returns
returns c = λ lines whole same at judged.
    elim c.match-self.branch [
      | in-Start+in_ok-next-in-Start w ↦ subst (λ z. Judged z (lines ++ whole ∷ [])) (sym w.next-is) (start_more _ _ lines whole w.in-Start.is judged (w.in_ok-next-in-Start.ensures whole same))
      | in-Sound+in-Some w ↦ subst (λ z. Judged z (lines ++ whole ∷ [])) (sym w.next-is) (w.in-Some.ensures lines whole same at (subst (λ z. Judged z lines) w.in-Sound.is judged))
    ]
