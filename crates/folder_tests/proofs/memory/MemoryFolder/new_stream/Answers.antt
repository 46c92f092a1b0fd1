use Rattle.folder_tests.proofs.Known.{new_stream_at}
use Rattle.folder_tests.proofs.memory.MemoryFolder.new_stream.Goals as goal

pub returns-in-Ok-clause-new : goal.returns-in-Ok-clause-new
returns-in-Ok-clause-new c = new_stream_at _ _ _ c.requires.idle c.in-Ok.ensures.created c.in-Ok.ensures.place
