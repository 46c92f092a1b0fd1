use Rattle.std.proofs.Common.{arith, refl, ◌*◌, ◌∙◌, true, ap, sym, deque_len}
use Rattle.std.proofs.lemmas.Bool.Decides.{Decides-eqb}
use Rattle.io_core.specs.Streams.{counted}
use Rattle.sealing_core.proofs.ChunkLemmas.{same_number, written_at}
use Rattle.sealing_core.proofs.MayLemmas.{may_behind}
use Rattle.sealing_core.proofs.Orders.{none_left}
use Rattle.sealing_core.proofs.RoundLemmas.{hand_alone, jobs_tasks, not_both, put_all_but, rounds_counts, rounds_write}
use Rattle.sealing_core.proofs.rounds.alone.Goals as goal

pub write_job-requires-clause-may : goal.write_job-requires-clause-may
write_job-requires-clause-may g c = λ number is.
    let was = c.jobs.invariant in
    let task = jobs_tasks _ _ _ _ _ was.jobs _ _ c.first_of.ensures.items in
    may_behind _ _ _ _ _ _ _ _ _ _ was.bound c.requires.may (written_at _ _ _ _ _ _ _ _ _ (same_number _ _ (sym is ∙ task.1)) was.written)

pub end-requires-clause-may : goal.end-requires-clause-may
end-requires-clause-may g c = λ ended.
    let was = c.jobs.invariant in
    let round = c.jobs.round in
    let empty = c.jobs-test.false in
    let is = c.is_empty.ensures in
    let left = c.requires.hand.0 in
    let limit = c.requires.hand.1 in
    let number = put_all_but _ _ _ _ left limit was.number round
    (hand_alone _ _ _ _ left limit was.number c.args.round.now round was.same c.requires.ended was.count was.jobs was.last c.requires.hand.2) ended
    (let z = (Decides-eqb (deque_len round.held) 0).0 (sym is ∙ empty) in omega arith) in
    may_behind _ _ _ _ _ _ _ _ _ _ was.bound c.requires.may
    (written_at _ _ _ _ _ _ _ _ _ number was.written)

pub returns-in-Err : goal.returns-in-Err
returns-in-Err g c = record {
  sealed = λ left failures limit group some hand.
      let was = c.jobs.invariant in
      let task = jobs_tasks _ _ _ _ _ was.jobs _ _ c.first_of.ensures.items in
      rounds_write _ _ _ _ left _ _ limit (group * g.N.Naming.each) _ _ _ _ some (hand.read.bytes, hand.read.consumed, hand.read.bound)
      (c.in-Err.ensures.begun _ was.number task.1 was.written) refl (c.in-Err.ensures.count ∙ ap (counted true) was.refusals);
}

pub returns : goal.returns
returns g c = record {
  sealed = λ left failures limit group some hand.
      let was = c.jobs.invariant in
      let round = c.jobs.round in
      let ended = ap (λ i. i.ended) was.same ∙ c.requires.ended in
      let empty = c.jobs-test.false in
      let is = c.is_empty.ensures in
      rounds_counts _ _ _ _ _ _ _ _ _ _ _ _ _ _ _ _ _ refl refl was.refusals
      (c.end.ensures.sealed left _ failures limit group was.number some
      (hand_alone _ _ _ _ left limit was.number c.args.round.now round was.same c.requires.ended was.count was.jobs was.last hand)
      (λ going. absurd (not_both _ ended going), λ _. none_left round.held.items (let z = (Decides-eqb (deque_len round.held) 0).0 (sym is ∙ empty) in omega arith))
      (λ going. absurd (not_both _ ended going))
      was.written);
}
