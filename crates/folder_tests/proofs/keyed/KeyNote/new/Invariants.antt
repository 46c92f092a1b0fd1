use Rattle.folder_tests.specs.Keyed.{keyed_range}
use Rattle.folder_tests.proofs.keyed.KeyNote.new.Given as goal

abbrev pub ghosts-note_down : goal.ghosts-note_down
ghosts-note_down a = record { keyed = keyed_range a._key.now a._ledger.now.terms.range }
