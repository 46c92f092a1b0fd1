use Rattle.ledger_core.proofs.Packing.{counts, tally_is}
use Rattle.ledger_core.proofs.ledger.Ledger.tally.Goals as goal

pub tally_of_word-requires : goal.tally_of_word-requires
tally_of_word-requires c = let l = c.look_in-found.ensures in (counts _ _ _ l.seat.lawful l.seat.legal l.found).small

pub returns-clause-counts : goal.returns-clause-counts
returns-clause-counts c =
    let l = c.look_in-found.ensures in
    let t = c.tally_of_word.ensures in
    tally_is _ _ _ _ l.seat.lawful l.seat.legal l.found t.issues t.granted t.settled
