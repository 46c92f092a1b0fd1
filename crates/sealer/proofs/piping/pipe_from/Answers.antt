use Rattle.sealer.proofs.piping.pipe_from.Goals as goal

pub returns-clause-run : goal.returns-clause-run
returns-clause-run g c =
    let sealed = c.pipe_all.ensures in
    let of = c.pipe_options-options.ensures in
    (rw (← of.device) sealed.once, rw (← of.device) (rw (← of.max_chunks) (rw (← of.shape) sealed.run)))
