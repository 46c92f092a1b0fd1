use Rattle.std.proofs.Common.{sym, ◌∙◌, subst}
use Rattle.std.specs.Str.{IsUtf8}
use Rattle.journal_core.specs.Text.{entry_text}
use Rattle.journal_core.proofs.Books.{is_false}
use Rattle.journal_core.proofs.Judging.{same_text, short_entry, utf8_entry, malformed_later, illegal_later, sound_later}
use Rattle.journal_core.proofs.state.later_line.Goals as goal

pub returns-in_default : goal.returns-in_default
returns-in_default c = λ lines whole same at sound.
    malformed_later c.args.standing.now lines whole c.args.number sound at (λ e writable is.
    c.in_default.ensures.cases.0 (subst IsUtf8 (sym (same_text c.args.line.now whole (entry_text e) same (short_entry e writable) is)) (utf8_entry e writable)))

pub returns-in_default-entry_in : goal.returns-in_default-entry_in
returns-in_default-entry_in c = λ lines whole same at sound.
    malformed_later c.args.standing.now lines whole c.args.number sound at (λ e writable is.
    let none = c.in_default-entry_in.ensures.complete e writable (c.in-Ok.ensures.cases.0 ∙ same_text c.args.line.now whole (entry_text e) same (short_entry e writable) is) in cc)

pub returns-then-not-can_follow : goal.returns-then-not-can_follow
returns-then-not-can_follow c = λ lines whole same at sound.
    let read = c.in-Some.ensures.sound in
    let is = sym c.in-Ok.ensures.cases.0 ∙ read.1 in
    illegal_later c.args.standing.now lines whole c.args.number _ sound at read.0 (same_text whole c.args.line.now _ (sym same) (short_entry _ read.0) is)
    (λ can. is_false _ c.if-not-can_follow.true (c.can_follow.ensures.1 can))

pub returns : goal.returns
returns c = λ lines whole same at sound.
    let read = c.in-Some.ensures.sound in
    let is = sym c.in-Ok.ensures.cases.0 ∙ read.1 in
    sound_later c.args.standing.now _ lines whole _ sound (same_text whole c.args.line.now _ (sym same) (short_entry _ read.0) is) (c.can_follow.ensures.0 c.if-not-can_follow.false) c.take.ensures
