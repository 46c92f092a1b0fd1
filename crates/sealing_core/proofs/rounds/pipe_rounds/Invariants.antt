use Rattle.sealing_core.proofs.rounds.pipe_rounds.Given as goal

abbrev pub ghosts-rounds_named : goal.ghosts-rounds_named
ghosts-rounds_named g a = record { key = a.key.now; header = a.header.now; each = a.plan.each; told = g.R.Source.left a.reader.now }
