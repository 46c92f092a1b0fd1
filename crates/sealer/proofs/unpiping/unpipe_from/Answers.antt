use Rattle.sealer.proofs.unpiping.unpipe_from.Goals as goal

pub returns-clause-run : goal.returns-clause-run
returns-clause-run g c =
    let of = c.unpipe_options-options.ensures in
    rw (← of.max_bytes) (rw (← of.label) c.unpipe_all.ensures.run)
