use Rattle.chacha_core.proofs.eight.apply_groups.Goals as goal

pub returns : goal.returns
returns c = c.run_groups.ensures c.args.first c.args.key.now c.args.nonce.now c.requires c.start_states-start.ensures
