use Rattle.std.proofs.Common.{◌∙◌, ap, arith}
use Rattle.journal_core.specs.History.{IsLawful}
use Rattle.journal_core.specs.Journal.{terms_of, journal_of}
use Rattle.journal_core.proofs.Books.{book_none}
use Rattle.journal_core.proofs.book.Book.new.Goals as goal

pub invariant_of-result : goal.invariant_of-result
invariant_of-result c =
    let lawful : IsLawful (terms_of c.args.range c.args.seats) = record { range = c.size.ensures.lawful; some_seats = omega arith; few_seats = omega arith } in
    book_none (terms_of c.args.range c.args.seats) _ _ lawful c.in-Ok.ensures (c.new-journal.ensures ∙ ap (journal_of c.args.range c.args.seats) c.new-2.ensures.items)
