use Rattle.std.proofs.Common.{length, ap, sym, ◌∙◌}
use Rattle.worker_core.proofs.Making.{worked_length, all_back, covers_same, worked_same}
use Rattle.worker_core.proofs.rounds.make_on.Goals as goal

pub returns-clause-made : goal.returns-clause-made
returns-clause-made g c =
    let slice = c.as_mut_slice.ensures in
    let same = worked_length c.args.round.now c.as_mut_slice.result.now c.make_round.new.benches c.make_round.ensures.worked ∙ ap length slice.value in
    covers_same _ _ c.make_round.new.benches (all_back _ c.args.benches.now.items c.make_round.new.benches same (sym slice.len ∙ ap length slice.value)) c.make_round.ensures.made

pub returns-clause-worked : goal.returns-clause-worked
returns-clause-worked g c =
    let slice = c.as_mut_slice.ensures in
    let same = worked_length c.args.round.now c.as_mut_slice.result.now c.make_round.new.benches c.make_round.ensures.worked ∙ ap length slice.value in
    worked_same _ c.as_mut_slice.result.now _ c.make_round.new.benches _ slice.value
    (all_back _ c.args.benches.now.items c.make_round.new.benches same (sym slice.len ∙ ap length slice.value)) c.make_round.ensures.worked
