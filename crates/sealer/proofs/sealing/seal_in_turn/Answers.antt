use Rattle.std.proofs.Common.{◌∙◌, inl, ⊎_elim, refl}
use Rattle.sealer_core.specs.Sealing.{IsOfSealing}
use Rattle.sealer.proofs.Statuses.{moved, of_written}
use Rattle.sealer.proofs.sealing.seal_in_turn.Goals as goal

pub returns : goal.returns
returns g c =
    let (once, ended) = c.seal_from-status.ensures.run in
    record {
      status = ⊎_elim (λ none. inl none.0)
          (λ all.
          let (range, history, told, written, folds, lawful, witnessed, sealed, journal, is) = all in
          moved (λ name. IsOfSealing) _ _ _ _ _ _ _ sealed.sealed.worked.named refl refl
          (of_written (λ name. IsOfSealing) _ told written sealed.sealed.worked.lines _ _ _ _ _ sealed.sealed.worked.fitting sealed.sealed.worked.told (λ yes. refl) is))
          ended;
    }
