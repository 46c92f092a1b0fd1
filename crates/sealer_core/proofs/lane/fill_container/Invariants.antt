use Rattle.sealer_core.proofs.lane.fill_container.Given as goal

abbrev pub ghosts-container_named : goal.ghosts-container_named
ghosts-container_named g a = record { rest = g.F.Outputs.rest a.folder.now; folder = a.folder.ghost_name }
