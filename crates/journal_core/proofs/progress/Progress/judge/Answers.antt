use Rattle.std.proofs.Common.{◌≢◌, ◌+◌, [], ◌∷◌, refl, ap, arith, length-append}
use Rattle.std.proofs.lemmas.List.Elements.{All-push, All-nil}
use Rattle.journal_core.specs.Verdict.{IsLine}
use Rattle.journal_core.proofs.Reading.{kept_front}
use Rattle.journal_core.proofs.progress.Progress.judge.Goals as goal

pub returns-clause-read : goal.returns-clause-read
returns-clause-read c = λ lines rest audits.
    let a = c.args.self.now in
    let count = audits.count in
    let same = kept_front a.kept rest a.kept_len audits.kept in
    record {
      count = omega (arith, length-append lines (rest ∷ []));
      kept = refl;
      each = All-push IsLine lines rest audits.each audits.last;
      last = All-nil (λ b. b ≢ 10);
      state = c.in_ok-step.ensures lines rest same (ap (λ n. n + 1) count) audits.state;
    }
