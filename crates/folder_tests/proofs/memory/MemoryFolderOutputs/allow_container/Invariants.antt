use Rattle.folder_core.specs.Record.{Container}
use Rattle.folder_tests.proofs.memory.MemoryFolderOutputs.allow_container.Given as goal

abbrev pub ghosts-allow_number : goal.ghosts-allow_number
ghosts-allow_number a = record { content = Container a._number a._shape.now }
