use Rattle.command_core.proofs.putting.allow_whole.Given as goal

abbrev pub ghosts-allow_named : goal.ghosts-allow_named
ghosts-allow_named g a = record { key = a.key.now; plain = a.plain.now }
