use Rattle.std.proofs.Common.{rules, ◌≡◌, ◌+◌, ◌-◌, ℕ, arith, subst}
use Rattle.ledger_core.specs.Shared.{fresh_seats}
use Rattle.ledger_core.proofs.Seats.{fresh_grows}
use Rattle.ledger_core.proofs.ledger.deal_out.Goals as goal

pub returns-clause-seats : goal.returns-clause-seats
returns-clause-seats g =
    let (table, words, me, items) = g.loop-number.invariant in
    let last : g.loop-number.number ≡ g.args.opening.now.seats - 1 = search rules in
    let one : g.loop-number.number + 1 ≡ g.args.opening.now.seats = omega (arith, last, g.requires.some_seats) in
    subst (λ (n : ℕ). g.push-2.new.self.items ≡ fresh_seats g.in_ok-word.word.shared.table_id g.args.opening.now n) one
    (fresh_grows g.in_ok-word.word.shared.table_id g.loop-number.token.table_id g.args.opening.now g.loop-number.number
    g.loop-number.seats.items g.push-2.new.self.items g.new-2.result items g.in_ok-push-2.ensures.items (search rules) table)

pub loop-number-preserved : goal.loop-number-preserved
loop-number-preserved g =
    let (table, words, me, items) = g.loop-number.invariant in (
      search rules,
      words,
      search rules,
      fresh_grows g.in_ok-word.word.shared.table_id g.loop-number.token.table_id g.args.opening.now
          g.loop-number.number g.loop-number.seats.items g.push.new.self.items g.new.result items g.in_ok-push.ensures.items (search rules) table,
    )
