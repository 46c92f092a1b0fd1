use Rattle.std.proofs.Common.{refl, arith}
use Rattle.journal_core.specs.declared.entry.Event.TheVariants.{Settled}
use Rattle.journal_core.specs.History.{entry}
use Rattle.journal_core.proofs.Books.{book_small, book_legal, book_step, pushed, open_test, is_false}
use Rattle.journal_core.proofs.book.Book.settle.Goals as goal

pub returns-then-not-can_follow-clause-not_open : goal.returns-then-not-can_follow-clause-not_open
returns-then-not-can_follow-clause-not_open c =
    let test = open_test _ _ _ c.args.seat c.args.number c.args.way _ c.self.invariant c.self.view_is (omega arith) c.can_follow.ensures in
    ((λ _. (test.1, λ opened. is_false _ c.if-not-can_follow.true (test.0.1 opened))), (λ _. refl))

pub push-requires : goal.push-requires
push-requires c = book_legal _ _ (entry c.args.seat (Settled c.args.number c.args.way)) c.self.invariant (c.can_follow.ensures.0 c.if-not-can_follow.false)

pub returns-then-is_err-clause-not_open : goal.returns-then-is_err-clause-not_open
returns-then-is_err-clause-not_open c =
    let test = open_test _ _ _ c.args.seat c.args.number c.args.way _ c.self.invariant c.self.view_is (omega arith) c.can_follow.ensures in
    ((λ other. absurd (cc)), (λ closed. absurd (closed.1 (test.0.0 c.if-not-can_follow.false))))

pub invariant_of-self-2 : goal.invariant_of-self-2
invariant_of-self-2 c =
    let e = entry c.args.seat (Settled c.args.number c.args.way) in
    book_step c.self.inside.standing _ c.self.inside.journal _ e c.self.invariant (c.can_follow.ensures.0 c.if-not-can_follow.false)
    (pushed _ _ e _ c.push.ensures c.if-is_err.ensures.negation) (c.take.ensures (book_small _ _ c.self.invariant))

pub returns-clause-not_open : goal.returns-clause-not_open
returns-clause-not_open c =
    let test = open_test _ _ _ c.args.seat c.args.number c.args.way _ c.self.invariant c.self.view_is (omega arith) c.can_follow.ensures in
    ((λ other. absurd (cc)), (λ closed. absurd (closed.1 (test.0.0 c.if-not-can_follow.false))))

pub returns-clause-legal : goal.returns-clause-legal
returns-clause-legal c = (invariant_of-self-2 c).sound
