use Rattle.folder_core.proofs.Calls.{write_call}
use Rattle.folder_tests.proofs.memory.MemoryFolderOutputs.write.Goals as goal

pub invariant_of-self : goal.invariant_of-self
invariant_of-self c = record {
  sound = write_call _ _ _ _ _ c.requires.may c.take.ensures.rest c.take.ensures.either c.args.self.now.sound;
}
