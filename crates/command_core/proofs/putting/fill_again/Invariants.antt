use Rattle.command_core.proofs.putting.fill_again.Given as goal

abbrev pub ghosts-again_named : goal.ghosts-again_named
ghosts-again_named g a = record { rest = g.F.Outputs.rest a.folder.now; folder = a.folder.ghost_name }
