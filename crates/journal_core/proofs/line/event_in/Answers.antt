use Rattle.std.proofs.Common.{sym, ap, ◌∙◌, Some}
use Rattle.journal_core.specs.declared.entry.Event.{Event}
use Rattle.journal_core.proofs.Lines.{word_of, rest_of, event_split, word_no_space, names_none, names_nothing}
use Rattle.journal_core.proofs.Books.{is_false}
use Rattle.journal_core.proofs.line.event_in.Goals as goal

pub returns-in_err-word-clause-complete : goal.returns-in_err-word-clause-complete
returns-in_err-word-clause-complete c = λ event small is. absurd (c.in_err-word.ensures.complete (word_of event) (rest_of event) (word_no_space event) (is ∙ event_split event))

pub returns-then-is_word-2-clause-complete : goal.returns-then-is_word-2-clause-complete
returns-then-is_word-2-clause-complete c = λ event small is.
    let words = c.in_ok-word.ensures.complete (word_of event) (rest_of event) (word_no_space event) (is ∙ event_split event) in
    ap (λ (e : Event). Some e) (names_none event small (sym (c.is_word.ensures.0 c.if-is_word.true) ∙ words.0) (sym (c.is_word-then-is_word.ensures.0 c.if-is_word-2.true) ∙ words.1))

pub returns-in_err-way-clause-complete : goal.returns-in_err-way-clause-complete
returns-in_err-way-clause-complete c = λ event small is.
    let words = c.in_ok-word.ensures.complete (word_of event) (rest_of event) (word_no_space event) (is ∙ event_split event) in
    absurd (names_nothing event c.in_ok-word.word.now words.0 (λ issue. is_false _ c.if-is_word.false (c.is_word.ensures.1 issue)) (λ way named. let none = c.in_err-way.ensures.complete way named in cc))
