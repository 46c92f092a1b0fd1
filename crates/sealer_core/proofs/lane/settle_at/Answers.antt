use Rattle.std.proofs.lemmas.Option.{slice_get-get_or}
use Rattle.sealer_core.proofs.Owing.{counted_at, settled_at}
use Rattle.sealer_core.proofs.Numbering.{held_by}
use Rattle.sealer_core.proofs.lane.settle_at.Goals as goal

pub returns-clause-settled : goal.returns-clause-settled
returns-clause-settled c = counted_at _ _ _ _ _ c.requires.owed.0 c.settle_of_file.ensures.settled

pub returns-clause-made : goal.returns-clause-made
returns-clause-made c = settled_at _ _ _ _ _ _ c.requires.owed.0 c.settle_of_file.ensures.settled

pub settle_of_file-requires-clause-held : goal.settle_of_file-requires-clause-held
settle_of_file-requires-clause-held c =
    let at = slice_get-get_or c.args.seats.now c.args.place c.index-seats-place.result c.requires.owed.0 in
    held_by _ c.args.spent c.args.ledger.now.terms c.number-knows.ensures.knows (c.requires.all.each c.args.place _ at).1 c.requires.owed.1 (c.requires.owed.2 _ at)
