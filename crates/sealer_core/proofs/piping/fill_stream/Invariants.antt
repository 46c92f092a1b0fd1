use Rattle.sealer_core.proofs.piping.fill_stream.Given as goal

abbrev pub ghosts-stream_named : goal.ghosts-stream_named
ghosts-stream_named g a = record { rest = g.W.Outputs.rest a.writer.now; folder = a.writer.ghost_name }
