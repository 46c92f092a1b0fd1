use Rattle.std.proofs.Common.{sym, ◌∙◌, subst}
use Rattle.std.specs.Str.{IsUtf8}
use Rattle.journal_core.specs.Text.{terms_text}
use Rattle.journal_core.proofs.Judging.{same_text, short_terms, utf8_terms, wrong_first, sound_first}
use Rattle.journal_core.proofs.state.first_line.Goals as goal

pub returns-in_default : goal.returns-in_default
returns-in_default c = λ whole same.
    wrong_first whole (λ terms lawful is.
    c.in_default.ensures.cases.0 (subst IsUtf8 (sym (same_text c.args.line.now whole (terms_text terms) same (short_terms terms lawful) is)) (utf8_terms terms lawful)))

pub returns-in_ok-new-in-Some : goal.returns-in_ok-new-in-Some
returns-in_ok-new-in-Some c = λ whole same.
    let read = c.in-Some.ensures.sound in
    let is = sym c.in-Ok.ensures.cases.0 ∙ read.1 in
    sound_first _ _ whole read.0 (same_text whole c.args.line.now _ (sym same) (short_terms _ read.0) is) c.in_ok-new-in-Some.ensures

pub returns-in-None : goal.returns-in-None
returns-in-None c = λ whole same.
    wrong_first whole (λ terms lawful is.
    let none = c.in-None.ensures.complete terms lawful (c.in-Ok.ensures.cases.0 ∙ same_text c.args.line.now whole (terms_text terms) same (short_terms terms lawful) is) in cc)
