use Rattle.std.proofs.Common.{◌≡◌, ◌≢◌, ◌≤◌, ◌++◌, ℕ, length, take, sym, ap, ◌∙◌, arith, length-take-le}
use Rattle.std.proofs.lemmas.List.{take_all}
use Rattle.std.proofs.lemmas.List.Elements.{All-append}
use Rattle.journal_core.proofs.Fronts.{filled_more, kept_more}
use Rattle.journal_core.proofs.progress.Progress.keep.Goals as goal

pub returns-clause-read : goal.returns-clause-read
returns-clause-read c = λ lines rest audits line.
    let a = c.args.self.now in
    let piece = c.args.piece.now in
    let n : ℕ = c.min-n.result in
    let part = c.copy_from_slice.new.self in
    let copied : part ≡ take n piece = c.copy_from_slice.ensures.after in
    let room : a.kept_len ≤ length a.kept = omega (arith, a.in_range) in
    let most : n ≤ length piece = omega arith in
    let long : length part ≡ n = ap (length {A = ℕ}) copied ∙ length-take-le n piece most in
    let front : length (take 35 rest) ≡ a.kept_len = ap (length {A = ℕ}) (sym audits.kept) ∙ length-take-le a.kept_len a.kept room in
    record {
      count = audits.count;
      kept = filled_more a.kept_len _ n a.kept part room (omega arith) ∙ ap (λ l. take a.kept_len a.kept ++ take n l) copied
          ∙ ap (λ l. take a.kept_len a.kept ++ l) (take_all n (take n piece) (omega (arith, length-take-le n piece most)))
          ∙ ap (λ l. l ++ take n piece) audits.kept ∙ kept_more 35 a.kept_len n rest piece front c.min-n.ensures;
      each = audits.each;
      last = All-append (λ b. b ≢ 10) rest piece audits.last line;
      state = audits.state;
    }
