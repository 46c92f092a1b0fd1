use Rattle.command_core.proofs.putting.fill_plain.Given as goal

abbrev pub ghosts-plain_named : goal.ghosts-plain_named
ghosts-plain_named g a = record { rest = g.F.Outputs.rest a.folder.now; folder = a.folder.ghost_name }
