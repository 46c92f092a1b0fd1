-- No list of bytes is without a verdict: the bytes have lines, and after a sound prefix the next line is sound or at
-- fault.
use Rattle.std.proofs.Common.{◌≡◌, ◌≢◌, ℕ, ◌+◌, List, [], ◌∷◌, ◌++◌, length, refl, sym, ap, ◌∙◌, subst, inl, inr, append_assoc, append-nil}
use mathlib.Core.Logic.{dite}
use native.Mathlib.Decide.{ℕ_discrete}
use Rattle.std.proofs.lemmas.List.Elements.{All-nil, All-cons, All-head, All-tail}
use Rattle.journal_core.specs.declared.entry.Entry.{Entry}
use Rattle.journal_core.specs.declared.verdict.Verdict.{Verdict}
use Rattle.journal_core.specs.declared.verdict.Verdict.TheVariants.{Legal as IsLegal, Malformed, Illegal}
use Rattle.journal_core.specs.History.{Terms, IsLawful, Legal, tally_of}
use Rattle.journal_core.specs.Text.{entry_text, journal_lines}
use Rattle.journal_core.specs.Verdict.{IsLine, IsCut, Judges, IsVerdict}
use Rattle.journal_core.proofs.Histories.{legal_none, legal_push}
use Rattle.journal_core.proofs.Judging.{journal_push}

-- the lines and the rest of some bytes
record CutOf (bytes : List ℕ) : Type 0 where
  lines : List (List ℕ)
  rest : List ℕ
  cut : IsCut bytes lines rest

no_byte : IsLine []
no_byte = All-nil (λ b. b ≢ 10)

one_more : (b : ℕ) (bytes rest : List ℕ) (lines : List (List ℕ)) → b ≢ 10 → IsCut bytes lines rest → CutOf (b ∷ bytes)
one_more b bytes rest [] other cut = record {
  lines = [];
  rest = b ∷ rest;
  cut = record { whole = ap (λ l. b ∷ l) cut.whole; each = cut.each; last = All-cons (λ x. x ≢ 10) b rest other cut.last };
}
one_more b bytes rest (line ∷ lines) other cut = record {
  lines = (b ∷ line) ∷ lines;
  rest = rest;
  cut = record {
    whole = ap (λ l. b ∷ l) cut.whole;
    each = All-cons IsLine (b ∷ line) lines (All-cons (λ x. x ≢ 10) b line other (All-head IsLine line lines cut.each))
        (All-tail IsLine line lines cut.each);
    last = cut.last;
  };
}

cut_of : (bytes : List ℕ) → CutOf bytes
cut_of [] = record { lines = []; rest = []; cut = record { whole = refl; each = All-nil IsLine; last = no_byte } }
cut_of (b ∷ bytes) =
    let c = cut_of bytes in
    dite (ℕ_discrete b 10)
    (λ (ends : b ≡ 10). record {
      lines = [] ∷ c.lines;
      rest = c.rest;
      cut = record {
        whole = ap (λ x. x ∷ bytes) ends ∙ ap (λ l. 10 ∷ l) c.cut.whole;
        each = All-cons IsLine [] c.lines no_byte c.cut.each;
        last = c.cut.last;
      };
    })
    (λ (other : b ≢ 10). one_more b bytes c.rest c.lines other c.cut)

-- after a legal history
later : (lines : List (List ℕ)) (terms : Terms) (history : List Entry) (rest : List ℕ) → IsLawful terms → Legal terms history
    → ((v : Verdict) → ¬ Judges (journal_lines terms history ++ lines) rest v) → ⊥
later [] terms history [] lawful legal none =
    none (IsLegal (tally_of history)) (terms, history, append-nil (journal_lines terms history), refl, lawful, legal, refl)
later [] terms history (b ∷ bs) lawful legal none =
    let before = journal_lines terms history in
    none (Malformed (length before + 1))
    (before, (terms, history, refl, lawful, legal), inr (append-nil before, (λ is. absurd (cc))), refl)
later (line ∷ lines) terms history rest lawful legal none =
    let before = journal_lines terms history in
    none (Malformed (length before + 1)) (
      before,
      (terms, history, refl, lawful, legal),
      inl (
        line,
        lines,
        refl,
        (λ some.
            none (Illegal (length history + 2)) (
              terms,
              history,
              lawful,
              legal,
              (
                some.0,
                lines,
                ap (λ l. before ++ l ∷ lines) some.2,
                some.1,
                (λ may.
                    let more : journal_lines terms (history ++ some.0 ∷ []) ++ lines ≡ before ++ line ∷ lines =
                    ap (λ l. l ++ lines) (journal_push terms history some.0) ∙ append_assoc before (entry_text some.0 ∷ []) lines
                    ∙ ap (λ l. before ++ l ∷ lines) (sym some.2) in
                    later lines terms (history ++ some.0 ∷ []) rest lawful (legal_push terms history some.0 legal may)
                    (λ v judged. none v (subst (λ l. Judges l rest v) more judged))),
              ),
              refl,
            )),
      ),
      refl,
    )

first : (lines : List (List ℕ)) (rest : List ℕ) → ((v : Verdict) → ¬ Judges lines rest v) → ⊥
first [] rest none = none (Malformed 1) ([], tt, inr (refl, (λ is. refl)), refl)
first (line ∷ lines) rest none =
    none (Malformed 1) (
      [],
      tt,
      inl (
        line,
        lines,
        refl,
        (λ some.
            later lines some.0 [] rest some.1 (legal_none some.0)
            (λ v judged. none v (subst (λ l. Judges (l ∷ lines) rest v) (sym some.2) judged))),
      ),
      refl,
    )

pub some_verdict : (bytes : List ℕ) → ¬ ((v : Verdict) → ¬ IsVerdict bytes v)
some_verdict bytes none =
    let c = cut_of bytes in
    first c.lines c.rest (λ v judged. none v (record { lines = c.lines; rest = c.rest; cut = c.cut; judged = judged }))
