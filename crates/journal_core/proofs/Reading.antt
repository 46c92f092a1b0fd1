-- What an audit has read, piece by piece, and its verdict at the end.
use Rattle.std.proofs.Common.{◌≡◌, ℕ, ◌+◌, ◌<◌, ◌≤◌, List, [], ◌∷◌, ◌++◌, length, take, refl, sym, ap, ◌∙◌, subst, inr, arith, append_assoc, append-nil, length-take-le}
use Rattle.std.proofs.lemmas.List.{length-take, take_all}
use Rattle.journal_core.specs.declared.progress.Progress.{Progress}
use Rattle.journal_core.specs.declared.state.State.{State}
use Rattle.journal_core.specs.declared.state.State.TheVariants.{Start, Sound, Wrong}
use Rattle.journal_core.specs.declared.verdict.Verdict.{Verdict}
use Rattle.journal_core.specs.declared.verdict.Verdict.TheVariants.{Malformed}
use Rattle.journal_core.specs.Standing.{StandingView}
use Rattle.journal_core.specs.Text.{ended_lines}
use Rattle.journal_core.specs.Verdict.{IsLine, IsSound, Judges, IsVerdict}
use Rattle.journal_core.specs.Judged.{Judged, SameFront}
use Rattle.journal_core.specs.Audit.{Audits, HasRead}
use Rattle.journal_core.proofs.Texts.{ended_lines-append}

-- a state after a line

pub wrong_more : (verdict : Verdict) (state : State) (lines : List (List ℕ)) (whole : List ℕ) → state ≡ Wrong verdict → Judged state lines → Judged state (lines ++ whole ∷ [])
wrong_more verdict state lines whole is judged =
    subst (λ z. Judged z (lines ++ whole ∷ [])) (sym is) (λ later rest.
    subst (λ l. Judges l rest verdict) (sym (append_assoc lines (whole ∷ []) later)) (subst (λ z. Judged z lines) is judged (whole ∷ later) rest))

pub start_more : (state next : State) (lines : List (List ℕ)) (whole : List ℕ) → state ≡ Start → Judged state lines → Judged next (whole ∷ []) → Judged next (lines ++ whole ∷ [])
start_more state next lines whole is judged first = subst (λ l. Judged next (l ++ whole ∷ [])) (sym (subst (λ z. Judged z lines) is judged)) first

-- a piece of a line, and the end of a line

pub read_piece : (a b : Progress) (before piece : List ℕ) → HasRead a before → IsLine piece
    → ((lines : List (List ℕ)) (rest : List ℕ) → Audits a lines rest → IsLine piece → Audits b lines (rest ++ piece)) → HasRead b (before ++ piece)
read_piece a b before piece read line keeps = record {
  lines = read.lines;
  rest = read.rest ++ piece;
  whole = ap (λ l. l ++ piece) read.whole ∙ append_assoc (ended_lines read.lines) read.rest piece;
  audits = keeps read.lines read.rest read.audits line;
}

pub read_line : (a b : Progress) (before piece : List ℕ) → HasRead a before → IsLine piece
    → ((lines : List (List ℕ)) (rest : List ℕ) → Audits a lines rest → IsLine piece → Audits b (lines ++ (rest ++ piece) ∷ []) []) → HasRead b (before ++ (piece ++ 10 ∷ []))
read_line a b before piece read line ends =
    let whole = read.rest ++ piece in
    record {
      lines = read.lines ++ whole ∷ [];
      rest = [];
      whole = ap (λ l. l ++ (piece ++ 10 ∷ [])) read.whole ∙ append_assoc (ended_lines read.lines) read.rest (piece ++ 10 ∷ [])
          ∙ ap (λ l. ended_lines read.lines ++ l) (sym (append_assoc read.rest piece (10 ∷ []))) ∙ sym (ended_lines-append read.lines (whole ∷ []))
          ∙ sym (append-nil (ended_lines (read.lines ++ whole ∷ [])));
      audits = ends read.lines read.rest read.audits line;
    }

-- what was kept of a line begins as the line does
pub kept_front : (kept rest : List ℕ) (n : ℕ) → take n kept ≡ take 35 rest → SameFront (take n kept) rest
kept_front kept rest n is =
    let long = length-take 35 rest in
    ap (take 35) is ∙ take_all 35 (take 35 rest) (omega arith)

-- the verdict

sound_lines : (s : StandingView) (lines : List (List ℕ)) → Judged (Sound s) lines → IsSound lines
sound_lines s lines sound = subst IsSound (sym sound.1) (s.terms, sound.0, refl, sound.2, sound.3)

some_kept : (a : Progress) (lines : List (List ℕ)) (rest : List ℕ) → Audits a lines rest → 0 < a.kept_len → a.kept_len ≤ length a.kept → rest ≡ [] → ⊥
some_kept a lines rest audits some room none =
    let long = ap (length {A = ℕ}) audits.kept in
    let front = length-take-le a.kept_len a.kept room in
    let empty = ap (λ l. length (take 35 l)) none in omega arith

pub verdict_rest : (a : Progress) (s : StandingView) (bytes : List ℕ) → a.state ≡ Sound s → 0 < a.kept_len → a.kept_len ≤ length a.kept → HasRead a bytes → IsVerdict bytes (Malformed (a.lines + 1))
verdict_rest a s bytes is some room read =
    let sound = subst (λ z. Judged z read.lines) is read.audits.state in
    record {
      lines = read.lines;
      rest = read.rest;
      cut = record { whole = read.whole; each = read.audits.each; last = read.audits.last };
      judged = (read.lines, sound_lines s read.lines sound, inr (refl, (λ none. absurd (some_kept a read.lines read.rest read.audits some room none))), ap (λ n. n + 1) read.audits.count);
    }

pub verdict_wrong : (a : Progress) (verdict : Verdict) (bytes : List ℕ) → a.state ≡ Wrong verdict → HasRead a bytes → IsVerdict bytes verdict
verdict_wrong a verdict bytes is read = record {
  lines = read.lines;
  rest = read.rest;
  cut = record { whole = read.whole; each = read.audits.each; last = read.audits.last };
  judged = subst (λ l. Judges l read.rest verdict) (append-nil read.lines) (subst (λ z. Judged z read.lines) is read.audits.state [] read.rest);
}
