use Rattle.std.proofs.Common.{◌≡◌, ◌+◌, ◌++◌, arith, length, take-append-drop}
use Rattle.worker_core.proofs.Making.{drawn_both, drawn_whole, worked_append, worked_one, worked_whole}
use Rattle.worker_core.proofs.workers.+crew.Goals as goal

pub crew-returns-clause-drawn : goal.crew-returns-clause-drawn
crew-returns-clause-drawn g t c =
    let split = c.split_at_mut-front.ensures in
    let (some, few) = c.requires.benches in
    let one : length c.split_at_mut-front.result.1.now ≡ 1 = omega (arith, split.back_len) in
    let all : length c.split_at_mut-front.result.0.now + 1 ≡ length c.args.benches.now = omega (arith, split.front_len) in
    drawn_whole _ _ _ _ _ _ all c.join.ensures
    (drawn_both _ c.args.round.now c.crew_beside-done.new.benches c.split_at_mut-front.result.1.now c.crew_beside-done.new.bench _ _ _
    c.crew_beside-done.ensures.drawn c.crew_beside-done.ensures.other_drawn one)

pub crew-returns-clause-worked : goal.crew-returns-clause-worked
crew-returns-clause-worked g t c =
    let split = c.split_at_mut-front.ensures in
    let (some, few) = c.requires.benches in
    let one : length c.split_at_mut-front.result.1.now ≡ 1 = omega (arith, split.back_len) in
    let whole : c.split_at_mut-front.result.0.now ++ c.split_at_mut-front.result.1.now ≡ c.args.benches.now =
    rw (split.front, split.back) (take-append-drop _ _) in
    worked_whole _ _ _ _ whole
    (worked_append _ _ _ _ _ c.crew_beside-done.ensures.worked
    (worked_one _ c.split_at_mut-front.result.1.now c.index-last-0.result c.crew_beside-done.new.bench one c.crew_beside-done.ensures.other_worked))
