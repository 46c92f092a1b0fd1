use Rattle.folder_tests.proofs.Known.{becomes_by, hold_kept}
use Rattle.folder_tests.proofs.memory.MemoryFolderOpeningFolder.allow_plain.Goals as goal

pub invariant_of-self : goal.invariant_of-self
invariant_of-self g c = record {
  sound = hold_kept _ _ _ _ _ _ _ c.requires.may (becomes_by _ _ _ _ _ c.allow.ensures.told c.allow.ensures.allowed)
      c.allow.ensures.fresh c.args.self.now.sound;
}

pub returns-clause-allowed : goal.returns-clause-allowed
returns-clause-allowed g c = becomes_by _ _ _ _ _ c.allow.ensures.told c.allow.ensures.allowed
