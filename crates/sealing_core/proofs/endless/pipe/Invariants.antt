use Rattle.sealing_core.proofs.endless.pipe.Given as goal

abbrev pub ghosts-pipe_named : goal.ghosts-pipe_named
ghosts-pipe_named g a = record { key = a.key.now; header = a.header.now; each = 1; told = g.R.Source.left a.reader.now }
