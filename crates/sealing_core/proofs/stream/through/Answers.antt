use Rattle.std.proofs.Common.{refl, rules, ◌*◌}
use Rattle.sealing_core.proofs.Moves.{learns}
use Rattle.crossbeam_queue.specs.Passes.{view}
use Rattle.sealing_core.specs.Hands.{HasAll}
use Rattle.sealing_core.specs.Pieces.{task_numbers, piece_numbers}
use Rattle.sealing_core.proofs.Orders.{each_once, on_each}
use Rattle.sealing_core.proofs.RoundLemmas.{rounds_memory}
use Rattle.sealing_core.proofs.stream.through.Goals as goal

pub learn_as-requires-clause-rule : goal.learn_as-requires-clause-rule
learn_as-requires-clause-rule g c = learns _ _ _ _ (search rules)

pub learn_as-requires-2-clause-rule : goal.learn_as-requires-2-clause-rule
learn_as-requires-2-clause-rule g c = learns _ _ _ _ (search rules)

pub returns-clause-once : goal.returns-clause-once
returns-clause-once g c =
    let jobs = c.learn_as.ensures.rule in
    let pieces = c.learn_as-2.ensures.rule in
    let same = c.learn_as.ensures.queue.1 in
    let same' = c.learn_as-2.ensures.queue.1 in
    on_each
    (λ n (had : HasAll n (view c.crew-answer.new.hands.into) (view c.crew-answer.new.hands.from)).
    rw (same, same') (each_once n task_numbers piece_numbers (view c.crew-answer.new.hands.into) (view c.crew-answer.new.hands.from) jobs.0 pieces.0 had jobs.1 pieces.1))
    c.crew-answer.result c.crew-answer.ensures.all

pub returns-in_default-clause-sealed : goal.returns-in_default-clause-sealed
returns-in_default-clause-sealed g c =
    let r = c.requires.read.hand.read in
    rounds_memory _ _ _ _ _ _ c.args.context.now.plan.limit (c.args.context.now.plan.group * g.N.Naming.each) _ _ _ _ c.requires.plan.0.limit.0 (r.bytes, r.consumed, r.bound) refl refl

pub returns-in_default-ruled-clause-sealed : goal.returns-in_default-ruled-clause-sealed
returns-in_default-ruled-clause-sealed g c =
    let r = c.requires.read.hand.read in
    rounds_memory _ _ _ _ _ _ c.args.context.now.plan.limit (c.args.context.now.plan.group * g.N.Naming.each) _ _ _ _ c.requires.plan.0.limit.0 (r.bytes, r.consumed, r.bound) refl refl

pub returns-in_default-ruled-2-clause-sealed : goal.returns-in_default-ruled-2-clause-sealed
returns-in_default-ruled-2-clause-sealed g c =
    let r = c.requires.read.hand.read in
    rounds_memory _ _ _ _ _ _ c.args.context.now.plan.limit (c.args.context.now.plan.group * g.N.Naming.each) _ _ _ _ c.requires.plan.0.limit.0 (r.bytes, r.consumed, r.bound) refl refl
