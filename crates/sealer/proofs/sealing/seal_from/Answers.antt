use Rattle.sealer.proofs.sealing.seal_from.Goals as goal

pub returns-clause-run : goal.returns-clause-run
returns-clause-run g c =
    let sealed = c.seal_all.ensures in
    let of = c.seal_options-options.ensures in
    (rw (← of.device) (rw (← of.files) sealed.once), rw (← of.device) (rw (← of.files) (rw (← of.lanes) (rw (← of.max_bytes) (rw (← of.shape) sealed.run)))))
