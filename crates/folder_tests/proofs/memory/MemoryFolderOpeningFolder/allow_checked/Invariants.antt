use Rattle.std.proofs.Common.{drop}
use Rattle.folder_core.specs.Record.{Checked}
use Rattle.folder_tests.proofs.memory.MemoryFolderOpeningFolder.allow_checked.Given as goal

abbrev pub ghosts-allow_opened : goal.ghosts-allow_opened
ghosts-allow_opened a = record { content = Checked a._key.now a._header.now (drop a._reader.now.at a._reader.now.bytes.items) }
