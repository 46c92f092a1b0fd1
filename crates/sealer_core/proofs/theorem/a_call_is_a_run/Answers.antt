use Rattle.std.proofs.Common.{◌++◌}
use Rattle.sha2.specs.Sha256.{sha256}
use Rattle.sealer_core.proofs.Apart.{fold_behind, fold_stands}
use Rattle.sealer_core.proofs.Calls.{ended_whole, of_stream, still_keyed, stream_keyed, whole_keyed}
use Rattle.sealer_core.proofs.theorem.a_call_is_a_run.Goals as goal

pub returns-clause-any : goal.returns-clause-any
returns-clause-any g c key device start files left range outputs r held folds may lawful known took keyed =
    let (of_device, behind) = fold_behind _ _ (λ a b same. cc) (λ a b same. cc) (sha256 key) device start left range folds in
    record {
      range = range;
      keyed = whole_keyed key range r.in_hand held r keyed;
      lawful = lawful;
      of_device = of_device;
      sound = c.accounts_are_sound.ensures outputs r held known took;
      behind = behind;
      stands = fold_stands _ _ (λ a b same. cc) (λ a b same. cc) (sha256 key) device start left range folds g.met.D.Disk.seen_may_stay files may;
    }

pub returns-clause-cut : goal.returns-clause-cut
returns-clause-cut g c key device start files left range outputs r held bytes front folds may lawful known took keyed admits part =
    let (of_device, behind) = fold_behind _ _ (λ a b same. cc) (λ a b same. cc) (sha256 key) device start left range folds in
    record {
      range = range;
      keyed = whole_keyed key range r.in_hand (held ++ front) r keyed;
      lawful = lawful;
      of_device = of_device;
      sound = c.cut_writes_are_sound.ensures outputs r held bytes front known took admits part;
      behind = behind;
      stands = fold_stands _ _ (λ a b same. cc) (λ a b same. cc) (sha256 key) device start left range folds g.met.D.Disk.seen_may_stay files may;
    }

pub returns-clause-streams : goal.returns-clause-streams
returns-clause-streams g c key input taken after device most place status start files left range shape old new history line line_then folds may lawful is_shape
    sealed had was is =
    let (of_device, behind) = fold_behind _ _ (λ a b same. cc) (λ a b same. cc) (sha256 key) device start left range folds in
    let (bytes, grew, (written, of, keyed, sound)) = of_stream key range shape is_shape most place old new input taken after had was is history status
    line line_then sealed in (
      bytes,
      grew,
      written,
      of,
      record {
        range = range;
        keyed = keyed;
        lawful = lawful;
        of_device = of_device;
        sound = ∣ sound ∣₁;
        behind = behind;
        stands = fold_stands _ _ (λ a b same. cc) (λ a b same. cc) (sha256 key) device start left range folds g.met.D.Disk.seen_may_stay files may;
      },
    )

pub returns-clause-files : goal.returns-clause-files
returns-clause-files g c key range under names terms history status old new before after unstarted sealed = (
  still_keyed key range _ before after sealed.sealed.worked.added,
  λ held. ended_whole key range _ before after held unstarted sealed.sealed.worked.added,
)

pub returns-clause-stream : goal.returns-clause-stream
returns-clause-stream g c key range under place old new terms history status line line_then before after sealed from to =
    stream_keyed key range under place old new before after sealed.outcome sealed.piped.voids from to sealed.piped.works
