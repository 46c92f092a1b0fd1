use Rattle.std.proofs.Common.{length, map, ap, sym, ◌∙◌}
use Rattle.worker_core.specs.Pieces.{emptied}
use Rattle.worker_core.proofs.Making.{all_back, emptied_length}
use Rattle.worker_core.proofs.rounds.put_from.Goals as goal

pub returns-clause-benches : goal.returns-clause-benches
returns-clause-benches c =
    let slice = c.as_mut_slice.ensures in
    let same = ap length c.take.ensures.benches ∙ emptied_length c.as_mut_slice.result.now ∙ ap length slice.value in
    all_back _ c.args.benches.now.items c.take.new.benches same (sym slice.len ∙ ap length slice.value)
    ∙ c.take.ensures.benches ∙ ap (map emptied) slice.value
