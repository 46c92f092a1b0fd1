use Rattle.crossbeam_queue.specs.Passes.{view}
use Rattle.sealing_core.proofs.Moves.{merges}
use Rattle.sealing_core.proofs.Orders.{all_joined}
use Rattle.sealing_core.proofs.stream.meet.Goals as goal

pub absorb-requires-clause-rule : goal.absorb-requires-clause-rule
absorb-requires-clause-rule g c = merges _ _ _ _ _ _ c.requires.ours.1

pub absorb-requires-2-clause-rule : goal.absorb-requires-2-clause-rule
absorb-requires-2-clause-rule g c = merges _ _ _ _ _ _ c.requires.ours.3

pub returns-clause-all : goal.returns-clause-all
returns-clause-all g c = λ n. all_joined n (view c.args.hands.now.into) (view c.args.hands.now.from) (view c.args.theirs) (view c.args.back) (view c.absorb.new.pass) (view c.absorb-2.new.pass) c.requires.theirs.2 c.absorb.ensures.rule c.absorb-2.ensures.rule
