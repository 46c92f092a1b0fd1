use Rattle.std.proofs.Common.{arith}
use Rattle.sealing_core.proofs.BlockLemmas.{is_moved}
use Rattle.sealing_core.proofs.block.move_up.Goals as goal

pub returns-clause-before : goal.returns-clause-before
returns-clause-before c = (is_moved c.args.text.now c.copy_within.new.self c.args.from c.args.to c.args.n _ (omega arith) c.requires.places c.requires.text c.copy_within.ensures.after).before

pub returns-clause-moved : goal.returns-clause-moved
returns-clause-moved c = (is_moved c.args.text.now c.copy_within.new.self c.args.from c.args.to c.args.n _ (omega arith) c.requires.places c.requires.text c.copy_within.ensures.after).moved

pub returns-clause-behind : goal.returns-clause-behind
returns-clause-behind c = (is_moved c.args.text.now c.copy_within.new.self c.args.from c.args.to c.args.n _ (omega arith) c.requires.places c.requires.text c.copy_within.ensures.after).behind
