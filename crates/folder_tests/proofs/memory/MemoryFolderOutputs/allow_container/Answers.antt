use Rattle.folder_tests.proofs.Known.{becomes_by, hold_kept}
use Rattle.folder_tests.proofs.memory.MemoryFolderOutputs.allow_container.Goals as goal

pub invariant_of-self : goal.invariant_of-self
invariant_of-self c = record {
  sound = hold_kept _ _ _ _ _ _ _ c.requires.may
      (becomes_by _ _ _ _ _ c.allow_number.ensures.told c.allow_number.ensures.allowed) c.allow_number.ensures.fresh
      c.args.self.now.sound;
}

pub returns-clause-allowed : goal.returns-clause-allowed
returns-clause-allowed c = becomes_by _ _ _ _ _ c.allow_number.ensures.told c.allow_number.ensures.allowed
