-- The journal's text as it grows by a line.
use Rattle.std.proofs.Common.{◌≡◌, ℕ, ◌+◌, ◌<◌, List, [], ◌∷◌, ◌++◌, length, take, get_or, take_all, ◌≤◌, refl, sym, ap, ◌∙◌, append_assoc}
use Rattle.std.proofs.lemmas.List.{map-append, take_more}
use Rattle.journal_core.specs.declared.entry.Entry.{Entry}
use Rattle.journal_core.specs.History.{Terms}
use Rattle.journal_core.specs.Text.{terms_text, entry_text, ended_lines, journal_lines, journal_text}

pub ended_lines-append : (xs ys : List (List ℕ)) → ended_lines (xs ++ ys) ≡ ended_lines xs ++ ended_lines ys
ended_lines-append [] ys = refl
ended_lines-append (x ∷ xs) ys = ap (λ l. x ++ 10 ∷ l) (ended_lines-append xs ys) ∙ sym (append_assoc x (10 ∷ ended_lines xs) (ended_lines ys))

pub journal_text-push : (terms : Terms) (history : List Entry) (e : Entry) → journal_text terms (history ++ e ∷ []) ≡ journal_text terms history ++ (entry_text e ++ 10 ∷ [])
journal_text-push terms history e =
    ap (λ l. ended_lines (terms_text terms ∷ l)) (map-append entry_text history (e ∷ [])) ∙ ended_lines-append (journal_lines terms history) (entry_text e ∷ [])

-- one more line was written
pub text_step : (terms : Terms) (entries : List Entry) (i : ℕ) (d : Entry) (old new : List ℕ) → i < length entries → old ≡ journal_text terms (take i entries)
    → new ≡ (old ++ entry_text (get_or entries i d)) ++ 10 ∷ [] → new ≡ journal_text terms (take (i + 1) entries)
text_step terms entries i d old new within before step =
    let e = get_or entries i d in
    step ∙ append_assoc old (entry_text e) (10 ∷ []) ∙ ap (λ l. l ++ (entry_text e ++ 10 ∷ [])) before ∙ sym (journal_text-push terms (take i entries) e)
    ∙ ap (journal_text terms) (sym (take_more entries i d within))

-- all lines were written
pub text_whole : (terms : Terms) (entries history : List Entry) (i : ℕ) (text : List ℕ) → length entries ≤ i → text ≡ journal_text terms (take i entries) → entries ≡ history
    → text ≡ journal_text terms history
text_whole terms entries history i text all is same = is ∙ ap (journal_text terms) (take_all i entries all ∙ same)
