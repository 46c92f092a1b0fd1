use Rattle.folder_tests.proofs.Known.{becomes_by, checked_may, hold_kept}
use Rattle.folder_tests.proofs.memory.MemoryFolderOpeningFolder.allow_checked.Goals as goal

pub invariant_of-self : goal.invariant_of-self
invariant_of-self c = record {
  sound = hold_kept _ _ _ _ _ _ _ (checked_may _ _ _ _ _ c.requires.may)
      (becomes_by _ _ _ _ _ c.allow_opened.ensures.told c.allow_opened.ensures.allowed) c.allow_opened.ensures.fresh
      c.args.self.now.sound;
}
