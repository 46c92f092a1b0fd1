use Rattle.std.proofs.Common.{◌<◌, sym, subst, ◌∙◌, arith}
use Rattle.journal_core.specs.History.{entry}
use Rattle.journal_core.specs.Standing.{CanReply}
use Rattle.journal_core.proofs.Books.{book_small, book_legal, can_answer, book_step, pushed}
use Rattle.journal_core.proofs.book.Book.issue.Goals as goal

pub push-requires : goal.push-requires
push-requires c =
    let s = c.self.inside.standing in
    let low : c.args.seat < s.terms.seats = omega arith in
    let can = subst (CanReply s c.args.seat) (sym c.answer-event.ensures) (can_answer s _ c.args.seat c.self.invariant (sym c.is_closed.ensures ∙ c.if-is_closed.false)) in
    book_legal s _ (entry c.args.seat c.answer-event.result) c.self.invariant (low, can)

pub take-requires : goal.take-requires
take-requires c =
    let s = c.self.inside.standing in
    (omega arith, subst (CanReply s c.args.seat) (sym c.answer-event.ensures) (can_answer s _ c.args.seat c.self.invariant (sym c.is_closed.ensures ∙ c.if-is_closed.false)))

pub invariant_of-self-2 : goal.invariant_of-self-2
invariant_of-self-2 c =
    let s = c.self.inside.standing in
    let low : c.args.seat < s.terms.seats = omega arith in
    let can = subst (CanReply s c.args.seat) (sym c.answer-event.ensures) (can_answer s _ c.args.seat c.self.invariant (sym c.is_closed.ensures ∙ c.if-is_closed.false)) in
    let e = entry c.args.seat c.answer-event.result in
    book_step s _ c.self.inside.journal _ e c.self.invariant (low, can) (pushed _ _ e _ c.push.ensures c.if-is_err.ensures.negation) (c.take.ensures (book_small _ _ c.self.invariant))

pub returns-clause-legal : goal.returns-clause-legal
returns-clause-legal c = (invariant_of-self-2 c).sound
