use Rattle.sealer_core.proofs.waiting.fill_bytes.Given as goal

abbrev pub ghosts-bytes_named : goal.ghosts-bytes_named
ghosts-bytes_named g a = record { rest = g.F.Outputs.rest a.folder.now; folder = a.folder.ghost_name }
