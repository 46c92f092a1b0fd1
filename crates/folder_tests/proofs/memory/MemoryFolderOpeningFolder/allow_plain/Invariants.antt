use Rattle.folder_core.specs.Record.{Plain}
use Rattle.folder_tests.proofs.memory.MemoryFolderOpeningFolder.allow_plain.Given as goal

abbrev pub ghosts-allow : goal.ghosts-allow
ghosts-allow g a = record { content = Plain g.N.Whole.key g.N.Whole.plain }
